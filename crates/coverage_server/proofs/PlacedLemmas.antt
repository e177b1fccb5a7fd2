-- Where a server's tiles lie beside the state that it represents, and the steps of a run.
use Rattle.std.proofs.Common.{◌≡◌, ℕ, zero, suc, nat_lt, true, List, [], ◌∷◌, map, Option, Some, Result, Ok, Err, OnOk, OnErr, refl, sym, ap, ◌∙◌, subst, arith, inl, inr, None, ◌++◌, length, ◌<◌}
use Rattle.std.specs.Prelude.{All, IfErr, IfOk, IsSomeAnd, IsTrue}
use Rattle.std.proofs.lemmas.List.Elements.{All-cons, All-weaker}
use Rattle.std.proofs.lemmas.Bool.{lt-ltb}
use Rattle.arr_core.specs.Refusals.{number_of}
use Rattle.arr_core.specs.declared.signature.Signature.{Signature}
use Rattle.arr_core.specs.Names.{AreDistinct}
use Rattle.arr_core.specs.Stores.{Coverage, Store, found}
use Rattle.arr_core.specs.Fields.{field_place}
use Rattle.block_file.specs.State.{block_at}
use Rattle.catalogue.specs.Signatures.{IsCatalogue, names_of}
use Rattle.disk_face.specs.Disk.{Rose}
use Rattle.http_front.specs.declared.reply.Reply.{Reply}
use Rattle.http_front.specs.declared.reply.Reply.TheVariants.{Text, Csv, Refused}
use Rattle.job_desk.specs.declared.job.Job.{Job as Held}
use Rattle.job_desk.specs.Steps.{Ends}
use Rattle.kvp_front.specs.Requests.{Asks, insert_coverage, update_coverage, delete_coverage, list_coverages, describe_coverage, process_coverages, submit_query, step_job, fetch_job, cancel_job, expand_template, process_template}
use Rattle.raster_store.specs.Calls.{AreWhole}
use Rattle.raster_store.specs.Snapshots.{IsSnapshot, without_job}
use Rattle.raster_store.specs.Views.{SnapshotView, listed_all, listed_snapshots}
use Rattle.wcps_types.specs.Typed.{TypedTree}
use Rattle.coverage_server.specs.declared.error.AnswerError.{AnswerError}
use Rattle.coverage_server.specs.declared.error.AnswerError.TheVariants.{Named, NoMemory, DiskFault, NoRoom, Damaged}
use Rattle.coverage_server.specs.Answered.{AnsweredIn, IsAnswer, TellsFailures}
use Rattle.coverage_server.specs.Asking.{TextTyped}
use Rattle.coverage_server.specs.Damage.{AreHeldWhole, AreIntactHeld, IsIntactNamed, KeepsSpelled, Spoils}
use Rattle.coverage_server.specs.Holding.{IsHolding, HoldsFor, ReleasesFor, reading}
use Rattle.coverage_server.specs.Layouts.{Layout, Lays, LaysBox, LaysBy, LaysHeld, LaysUpdate, LetsGo, layout_of}
use Rattle.coverage_server.specs.Leaving.{Leaves, LeavesJobs, refusal_number, reply_of}
use Rattle.kvp_front.specs.declared.request.Interval.{Interval}
use Rattle.coverage_server.specs.Machine.{Job, State, Serves, axes_of}
use Rattle.coverage_server.specs.Represents.{AreJobs, Represents, Places, Steps}
use Rattle.coverage_server.specs.Room.{LacksRoom}
use Rattle.coverage_server.specs.Runs.{Placed, reading as numbers_of, intact_after, intact_with, HoldsNames, HoldsNamesBy, with_failures, without_number}
use Rattle.coverage_server.specs.Views.{ServerView, SessionView, IsUnchanged, still_of, signatures_of}
use Rattle.coverage_server.proofs.HoldingLemmas.{more_left, none_left}
use Rattle.coverage_server.proofs.IntactLemmas.{held_kept, held_left, held_numbers, held_push, copied_intact, whole_kept, whole_left, whole_push}
use Rattle.coverage_server.proofs.SpelledLemmas.{inserts_to}
use Rattle.coverage_server.proofs.StandingLemmas.{represents-same}
use Rattle.coverage_server.proofs.TileLemmas.{some_out}

-- ---- layouts

-- what a refusal leaves of the layout
pub laid_same : (v w : ServerView) → IsTrue v.honest → IsUnchanged v w → layout_of w ≡ layout_of v
laid_same v w sure same = rw (same.indexes, same.held.values sure) refl

pub still_laid : (v w : ServerView) → still_of w ≡ still_of v → layout_of w ≡ layout_of v
still_laid v w same = ap layout_of same

-- the coverages of a query came to be held
pub lays_held : (v w : ServerView) (text : List ℕ) (q : TypedTree) (names : List (List ℕ)) (n : ℕ) (next : Option ℕ)
    → next ≡ Some n → names ≡ map (λ (s : Signature). s.name) q.coverages
    → TextTyped v.store text (Ok q) → HoldsFor n names v w → LaysHeld text v.store next (layout_of v) (layout_of w)
lays_held v w text q names n next given named typed x =
    let indexes : w.indexes ≡ v.indexes = ap (λ (u : ServerView). u.indexes) x.others in
    record {
      tree = q;
      typed = typed;
      snapshot = x.snapshot;
      number = given ∙ ap Some (sym x.job);
      is = subst (λ (l : List (List ℕ)). IsSnapshot l v.store v.indexes x.snapshot) named x.is;
      held = rw (indexes, x.held) refl;
    }

-- what was held for a job was let go
pub lets_go : (n : ℕ) (v w : ServerView) → ReleasesFor n v w → LetsGo n (layout_of v) (layout_of w)
lets_go n v w x =
    let indexes : w.indexes ≡ v.indexes = ap (λ (u : ServerView). u.indexes) x.others in inr (rw (indexes, x.held) refl)

-- or is held still, where units are left
pub ends_lay : (n left : ℕ) (v m w : ServerView) → still_of m ≡ still_of v → Ends (Ok left) (w ≡ m) (ReleasesFor n m w)
    → LetsGo n (layout_of v) (layout_of w)
ends_lay n zero v m w still gone = subst (λ (l : Layout). LetsGo n l (layout_of w)) (still_laid v m still)
    (lets_go n m w gone)
ends_lay n (suc left) v m w still same = inl (ap layout_of same ∙ still_laid v m still)

-- ---- states and layouts

-- coverages stay intact whose tiles stay spelled
intact_kept : (v w : ServerView) → KeepsSpelled v w → (names : List (List ℕ)) → All (IsIntactNamed v) names
    → All (IsIntactNamed w) names
intact_kept v w keeps names whole =
    All-weaker (IsIntactNamed v) (IsIntactNamed w) (λ name own field tile. keeps.tiles name field tile (own field tile))
    names
    whole

-- what is held, where that is the same
held_same : (v w : ServerView) → w.held ≡ v.held → KeepsSpelled v w → (names : List (ℕ × List (List ℕ)))
    → AreIntactHeld v.content v.held names → AreHeldWhole v.content v.held → AreIntactHeld w.content w.held names
held_same v w same keeps names held whole =
    let here : AreIntactHeld v.content w.held names =
    subst (λ (l : List SnapshotView). AreIntactHeld v.content l names) (sym same) held in
    let blocks : AreHeldWhole v.content w.held = subst (AreHeldWhole v.content) (sym same) whole in
    held_kept v.content w.content w.held names (λ k more. keeps.held k more (blocks k more)) here

blocks_same : (v w : ServerView) → w.held ≡ v.held → KeepsSpelled v w → AreHeldWhole v.content v.held
    → AreHeldWhole w.content w.held
blocks_same v w same keeps whole =
    let blocks : AreHeldWhole v.content w.held = subst (AreHeldWhole v.content) (sym same) whole in
    whole_kept v.content w.content w.held (λ k more. keeps.held k more (blocks k more)) blocks

-- what leaves all of it as it was, but for the count of failures
pub places-same : (v w : SessionView) → IsTrue v.coverages.honest → IsUnchanged v.coverages w.coverages
    → KeepsSpelled v.coverages w.coverages → w.desk ≡ v.desk → (p : Placed) → Places v p
    → Places w (with_failures w.coverages.failures p)
places-same v w sure same keeps desk p r = record {
  state = represents-same v w (same.store sure) (same.held.values sure) desk p.state r.state;
  layout = r.layout ∙ sym (laid_same v.coverages w.coverages sure same);
  intact = λ still. intact_kept v.coverages w.coverages keeps p.intact (r.intact sure);
  held = λ still. held_same v.coverages w.coverages (same.held.values sure) keeps p.held (r.held sure) (r.blocks sure);
  blocks = λ still. blocks_same v.coverages w.coverages (same.held.values sure) keeps (r.blocks sure);
  failures = refl;
}

-- a coverage that came is intact, and those that were are
module _ (s t : State) (v w : ServerView) (same : s.store ≡ v.store) (keeps : KeepsSpelled v w) (names : List (List ℕ))
    (whole : All (IsIntactNamed v) names) where
  intact_came : (asks : Asks) (reply : Reply) → IsAnswer reply → Serves asks s reply t
      → All (IsIntactNamed w) (intact_with asks names)
  intact_came (insert_coverage name intervals fields) reply is serves =
      let none : found name v.store ≡ None =
      subst (λ (c : Store). found name c ≡ None) same
      (inserts_to name intervals fields s.store reply t.store is serves.0).0 in
      All-cons (IsIntactNamed w) name names
      (λ field tile. keeps.tiles name field tile
      (λ c f i at has of. absurd (let no : None ≡ Some c = sym none ∙ at in cc)))
      (intact_kept v w keeps names whole)
  intact_came (update_coverage name field intervals cells) reply is serves = intact_kept v w keeps names whole
  intact_came (delete_coverage name) reply is serves = intact_kept v w keeps names whole
  intact_came list_coverages reply is serves = intact_kept v w keeps names whole
  intact_came (describe_coverage name) reply is serves = intact_kept v w keeps names whole
  intact_came (process_coverages query) reply is serves = intact_kept v w keeps names whole
  intact_came (submit_query query) reply is serves = intact_kept v w keeps names whole
  intact_came (step_job number units) reply is serves = intact_kept v w keeps names whole
  intact_came (fetch_job number) reply is serves = intact_kept v w keeps names whole
  intact_came (cancel_job number) reply is serves = intact_kept v w keeps names whole
  intact_came (expand_template template) reply is serves = intact_kept v w keeps names whole
  intact_came (process_template template) reply is serves = intact_kept v w keeps names whole

  intact_moved : (asks : Asks) (reply : Reply) → Serves asks s reply t
      → All (IsIntactNamed w) (intact_after asks reply names)
  intact_moved asks (Text text) serves = intact_came asks (Text text) tt serves
  intact_moved asks (Csv text) serves = intact_came asks (Csv text) tt serves
  intact_moved asks (Refused code) serves = intact_kept v w keeps names whole

-- what becomes of the names for jobs
record MovesNames (asks : Asks) (next : Option ℕ) (intact : List (List ℕ)) (content : List ℕ) (held : List SnapshotView)
    (old : List (ℕ × List (List ℕ))) : Type 0 where
  pub names : List (ℕ × List (List ℕ))
  pub by : HoldsNames asks next intact old names
  pub are : AreIntactHeld content held names
  pub whole : AreHeldWhole content held

module _ (v w : ServerView) (intact : List (List ℕ)) (names : List (ℕ × List (List ℕ))) (next : Option ℕ)
    (apart : AreDistinct (names_of (signatures_of v.store))) (intact_now : All (IsIntactNamed v) intact)
    (blocks : (k : ℕ) → 0 < listed_all v.indexes k → length (block_at v.content k) ≡ 4096)
    (held : AreIntactHeld v.content v.held names) (whole : AreHeldWhole v.content v.held) where
  are_still : (l : List SnapshotView) → l ≡ v.held → AreIntactHeld v.content l names
  are_still l same = subst (λ (k : List SnapshotView). AreIntactHeld v.content k names) (sym same) held

  whole_still : (l : List SnapshotView) → l ≡ v.held → AreHeldWhole v.content l
  whole_still l same = subst (AreHeldWhole v.content) (sym same) whole

  box_held : (name field : List ℕ) (intervals : List Interval)
      → LaysUpdate name field intervals v.store w.store (layout_of v) (layout_of w) → w.held ≡ v.held
  box_held name field intervals x =
      some_out (found name v.store)
      {P = λ (c : Coverage). IsSomeAnd (field_place field c.fields)
      (λ k. LaysBox name k (axes_of intervals) v.store w.store (layout_of v) (layout_of w))}
      (λ c y. some_out (field_place field c.fields)
      {P = λ k. LaysBox name k (axes_of intervals) v.store w.store (layout_of v) (layout_of w)} (λ k z. z.held) y) x

  same_names : (asks : Asks) → HoldsNames asks next intact names names → w.held ≡ v.held
      → MovesNames asks next intact v.content w.held names
  same_names asks by same =
      record { names = names; by = by; are = are_still w.held same; whole = whole_still w.held same }

  let_go : (asks : Asks) (number : ℕ) → HoldsNames asks next intact names names
      → HoldsNames asks next intact names (without_number number names) → LetsGo number (layout_of v) (layout_of w)
      → MovesNames asks next intact v.content w.held names
  let_go asks number stays goes (inl same) = same_names asks stays (ap (λ (l : Layout). l.held) same)
  let_go asks number stays goes (inr gone) =
      let left : w.held ≡ without_job number v.held = ap (λ (l : Layout). l.held) gone in
      record {
        names = without_number number names;
        by = goes;
        are = subst (λ (l : List SnapshotView). AreIntactHeld v.content l (without_number number names)) (sym left)
            (held_left v.content number v.held names held);
        whole = subst (AreHeldWhole v.content) (sym left) (whole_left v.content number v.held whole);
      }

  came : (query : List ℕ) → LaysHeld query v.store next (layout_of v) (layout_of w)
      → MovesNames (submit_query query) next intact v.content w.held names
  came query x =
      let more : w.held ≡ v.held ++ x.snapshot ∷ [] = ap (λ (l : Layout). l.held) x.held in
      let grown : List (ℕ × List (List ℕ)) = names ++ (x.snapshot.job, intact) ∷ [] in
      let own = copied_intact v.content v.store v.indexes intact apart intact_now x.snapshot x.is.copied in
      record {
        names = grown;
        by = subst (λ (o : Option ℕ). IsSomeAnd o (λ (n : ℕ). grown ≡ names ++ (n, intact) ∷ [])) (sym x.number) refl;
        are = subst (λ (l : List SnapshotView). AreIntactHeld v.content l grown) (sym more)
            (held_push v.content v.held names x.snapshot (x.snapshot.job, intact) refl own held);
        whole = subst (AreHeldWhole v.content) (sym more)
            (whole_push v.content v.store v.indexes v.held x.snapshot blocks x.is.copied whole);
      }

  answered_names : (asks : Asks) → Lays asks v.store next w.store (layout_of v) (layout_of w)
      → MovesNames asks next intact v.content w.held names
  answered_names (insert_coverage name intervals fields) x =
      same_names (insert_coverage name intervals fields) refl (ap (λ (l : Layout). l.held) x)
  answered_names (update_coverage name field intervals cells) x =
      same_names (update_coverage name field intervals cells) refl (box_held name field intervals x)
  answered_names (delete_coverage name) x = same_names (delete_coverage name) refl (ap (λ (l : Layout). l.held) x)
  answered_names list_coverages x = same_names list_coverages refl (ap (λ (l : Layout). l.held) x)
  answered_names (describe_coverage name) x = same_names (describe_coverage name) refl (ap (λ (l : Layout). l.held) x)
  answered_names (process_coverages query) x = same_names (process_coverages query) refl (ap (λ (l : Layout). l.held) x)
  answered_names (submit_query query) x = came query x
  answered_names (step_job number units) x = let_go (step_job number units) number (inl refl) (inr refl) x
  answered_names (fetch_job number) x = same_names (fetch_job number) refl (ap (λ (l : Layout). l.held) x)
  answered_names (cancel_job number) x = let_go (cancel_job number) number (inl refl) (inr refl) x
  answered_names (expand_template template) x = same_names (expand_template template) refl
      (ap (λ (l : Layout). l.held) x)
  answered_names (process_template template) x = same_names (process_template template) refl
      (ap (λ (l : Layout). l.held) x)

  moved_names : (asks : Asks) (reply : Reply) → LaysBy asks reply v.store next w.store (layout_of v) (layout_of w)
      → (new : List (ℕ × List (List ℕ))) × HoldsNamesBy asks reply next intact names new
      × AreIntactHeld v.content w.held new × AreHeldWhole v.content w.held
  moved_names asks (Text text) x = let y = answered_names asks x in (y.names, y.by, y.are, y.whole)
  moved_names asks (Csv text) x = let y = answered_names asks x in (y.names, y.by, y.are, y.whole)
  moved_names asks (Refused code) x =
      let same : w.held ≡ v.held = ap (λ (l : Layout). l.held) x in
      (names, refl, are_still w.held same, whole_still w.held same)

-- the jobs that have units left have the same numbers at the desk
numbers_read : (xs : List SnapshotView) (hs : List Held) (js : List Job) → AreJobs xs hs js → numbers_of js ≡ reading hs
numbers_read xs [] [] x = refl
numbers_read xs [] (j ∷ js) x = absurd x
numbers_read xs (h ∷ hs) [] x = absurd x
numbers_read xs (h ∷ hs) (j ∷ js) x = by_left h.left refl (numbers_read xs hs js x.1)
  where
    by_left : (l : ℕ) → h.left ≡ l → numbers_of js ≡ reading hs → numbers_of (j ∷ js) ≡ reading (h ∷ hs)
    by_left zero e rest = let none : j.left ≡ 0 = x.0.left ∙ e in rw (none_left h hs e, none) rest
    by_left (suc l) e rest =
        let some : nat_lt 0 j.left ≡ true = lt-ltb 0 j.left (omega (arith, x.0.left, e)) in
        rw (more_left h hs l e, some) (rw (x.0.number, rest) refl)

-- what a refusal leaves of the coverages, and of the jobs
pub refused_leaves : (asks : Asks) (old new : SessionView) (r : Result Reply AnswerError)
    → OnErr r (IsUnchanged old.coverages new.coverages)
    → IfErr r (λ e. LeavesJobs asks (refusal_number e) old.desk new.desk)
    → IfErr r (λ e. Leaves asks (refusal_number e) old new)
refused_leaves asks old new (Ok reply) coverages jobs = tt
refused_leaves asks old new (Err e) coverages jobs = record { coverages = coverages; jobs = jobs }

module _ (asks : Asks) (old new : SessionView) (sure : IsTrue old.coverages.honest)
    (whole : AreWhole new.coverages.store new.coverages.indexes)
    (holding : IsHolding new.desk new.coverages.held) (catalogue : IsCatalogue (signatures_of old.coverages.store))
    (blocks : (k : ℕ) → 0 < listed_all old.coverages.indexes k → length (block_at old.coverages.content k) ≡ 4096)
    (p : Placed) (at : Places old p) where
  -- a step of the machine, and what it makes of the layout
  placed : (reply : Reply) (t : State) → Represents new t → Serves asks p.state reply t
      → LaysBy asks reply old.coverages.store old.desk.next new.coverages.store (layout_of old.coverages)
      (layout_of new.coverages) → KeepsSpelled old.coverages new.coverages
      → new.coverages.failures ≡ old.coverages.failures
      → (q : Placed) × Places new q × Steps asks old p reply q
  placed reply t r serves lays keeps quiet = (
    record {
      state = t;
      layout = layout_of new.coverages;
      intact = intact_after asks reply p.intact;
      held = names.0;
      failures = new.coverages.failures;
    },
    record {
      state = r;
      layout = refl;
      intact = λ still. intact_moved p.state t old.coverages new.coverages at.state.store keeps p.intact
          (at.intact sure)
          asks reply serves;
      held = λ still. held_kept old.coverages.content new.coverages.content new.coverages.held names.0 kept names.2;
      blocks = λ still. whole_kept old.coverages.content new.coverages.content new.coverages.held kept names.3;
      failures = refl;
    },
    inl (
      serves,
      moved,
      refl,
      subst (λ (n : Option ℕ). HoldsNamesBy asks reply n p.intact p.held names.0) (sym at.state.next) names.1,
      record {
        whole = subst (λ (s : Store). AreWhole s new.coverages.indexes) (sym r.store) whole;
        jobs = holding.jobs ∙ sym (numbers_read new.coverages.held new.desk.jobs t.jobs r.jobs);
        held = held_numbers old.coverages.content new.coverages.held names.0 names.2;
      },
      quiet ∙ sym at.failures,
    ),
  )
    where
      names : (l : List (ℕ × List (List ℕ))) × HoldsNamesBy asks reply old.desk.next p.intact p.held l
          × AreIntactHeld old.coverages.content new.coverages.held l
          × AreHeldWhole old.coverages.content new.coverages.held
      names =
          moved_names old.coverages new.coverages p.intact p.held old.desk.next catalogue.distinct (at.intact sure)
          blocks
          (at.held sure) (at.blocks sure) asks reply lays

      kept : (k : ℕ) → 0 < listed_snapshots new.coverages.held k
          → block_at new.coverages.content k ≡ block_at old.coverages.content k
      kept k more = keeps.held k more (names.3 k more)

      moved : LaysBy asks reply p.state.store p.state.next t.store p.layout (layout_of new.coverages)
      moved =
          subst (λ (s : Store). LaysBy asks reply s p.state.next t.store p.layout (layout_of new.coverages))
          (sym at.state.store)
          (subst (λ (n : Option ℕ). LaysBy asks reply old.coverages.store n t.store p.layout (layout_of new.coverages))
          (sym at.state.next)
          (subst (λ (s : Store). LaysBy asks reply old.coverages.store old.desk.next s p.layout
          (layout_of new.coverages)) (sym r.store)
          (subst (λ (l : Layout). LaysBy asks reply old.coverages.store old.desk.next new.coverages.store l
          (layout_of new.coverages)) (sym at.layout) lays)))

  -- a refusal leaves both
  stayed : Represents new p.state → IsUnchanged old.coverages new.coverages → KeepsSpelled old.coverages new.coverages
      → Places new (with_failures new.coverages.failures p)
  stayed r same keeps = record {
    state = r;
    layout = at.layout ∙ sym (laid_same old.coverages new.coverages sure same);
    intact = λ still. intact_kept old.coverages new.coverages keeps p.intact (at.intact sure);
    held = λ still. held_same old.coverages new.coverages (same.held.values sure) keeps p.held (at.held sure)
        (at.blocks sure);
    blocks = λ still. blocks_same old.coverages new.coverages (same.held.values sure) keeps (at.blocks sure);
    failures = refl;
  }

  -- where no call failed it is what it was
  as_was : new.coverages.failures ≡ old.coverages.failures → with_failures new.coverages.failures p ≡ p
  as_was quiet = ap (λ (n : ℕ). with_failures n p) (quiet ∙ sym at.failures)

  wanting : LacksRoom asks old.coverages.store (layout_of old.coverages) → LacksRoom asks p.state.store p.layout
  wanting x =
      subst (λ (s : Store). LacksRoom asks s p.layout) (sym at.state.store)
      (subst (λ (l : Layout). LacksRoom asks old.coverages.store l) (sym at.layout) x)

  answer_lays : (reply : Reply) → IsAnswer reply → Lays asks old.coverages.store old.desk.next new.coverages.store
      (layout_of old.coverages) (layout_of new.coverages)
      → LaysBy asks reply old.coverages.store old.desk.next new.coverages.store (layout_of old.coverages)
      (layout_of new.coverages)
  answer_lays (Text text) is x = x
  answer_lays (Csv text) is x = x
  answer_lays (Refused code) is x = absurd is

  pub stepped : (r : Result Reply AnswerError)
      → AnsweredIn (Serves asks) (LacksRoom asks old.coverages.store (layout_of old.coverages))
      (Spoils asks old.coverages) old new r
      → (IsTrue old.coverages.honest → OnOk r (Lays asks old.coverages.store old.desk.next new.coverages.store
      (layout_of old.coverages) (layout_of new.coverages)) × KeepsSpelled old.coverages new.coverages)
      → IfErr r (λ e. Leaves asks (refusal_number e) old new) → IfOk r IsAnswer → TellsFailures r old.coverages new.coverages
      → (q : Placed) × Places new q × Steps asks old p (reply_of r) q
  stepped (Ok reply) x lays same is told =
      let y = x sure p.state at.state in
      let z = lays sure in
      placed reply y.0 y.1 y.2 (answer_lays reply is z.0) z.1 (told.quiet (λ f. absurd cc))
  stepped (Err (Named refusal)) x lays same is told =
      let y = x sure p.state at.state in
      placed (Refused (number_of refusal)) y.0 y.1 y.2 (laid_same old.coverages new.coverages sure same.coverages) (lays sure).1
      (told.quiet (λ f. absurd cc))
  stepped (Err NoMemory) x lays same is told = (
    with_failures new.coverages.failures p,
    stayed (x sure p.state at.state) same.coverages (lays sure).1,
    inr (inl (inl (refl, as_was (told.quiet (λ f. absurd cc))))),
  )
  stepped (Err DiskFault) x lays same is told =
      let rose : Rose p.failures new.coverages.failures = subst (λ (n : ℕ). Rose n new.coverages.failures) (sym at.failures) x.0 in (
        with_failures new.coverages.failures p,
        stayed (x.1 sure p.state at.state) same.coverages (lays sure).1,
        inr (inl (inr (inl (rose, (refl, refl))))),
      )
  stepped (Err NoRoom) x lays same is told = (
    with_failures new.coverages.failures p,
    stayed (x.1 sure p.state at.state) same.coverages (lays sure).1,
    inr (inl (inr (inr (wanting (x.0 sure), (refl, as_was (told.quiet (λ f. absurd cc))))))),
  )
  stepped (Err Damaged) x lays same is told = (
    with_failures new.coverages.failures p,
    stayed (x.1 sure p.state at.state) same.coverages (lays sure).1,
    inr (inr (x.0 sure p.state at.state, (refl, as_was (told.quiet (λ f. absurd cc))))),
  )
