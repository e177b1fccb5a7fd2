-- The limits of messages and of connections.
use Rattle.std.specs.Prelude.{ℕ}

-- the most bytes of a head
abbrev pub max_head : ℕ
max_head = 16384

-- the most fields of a head
abbrev pub max_head_fields : ℕ
max_head_fields = 64

-- the most bytes of a body
abbrev pub max_body : ℕ
max_body = 1048576

-- the most messages of a connection
abbrev pub max_messages : ℕ
max_messages = 1000
