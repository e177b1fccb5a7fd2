-- One connection more, and sessions one after the other.
use Rattle.std.proofs.Common.{◌≡◌, ℕ, zero, suc, ◌+◌, ◌/◌, ◌<◌, ◌≤◌, List, [], ◌∷◌, ◌++◌, length, take, drop, slice_set, get_or, Some, refl, sym, ap, ◌∙◌, subst, arith, inl, inr}
use Rattle.std.specs.Prelude.{All, IsTrue}
use Rattle.std.proofs.lemmas.List.Elements.{All-weaker}
use Rattle.std.proofs.lemmas.List.{take_more, take_more_set, get_or-drop, drop-set-lt, drop-drop}
use Rattle.arr_core.specs.Stores.{Store}
use Rattle.block_file.specs.declared.header.State.TheVariants.{Open}
use Rattle.disk_face.specs.Disk.{Rose, Tells}
use Rattle.stream_face.specs.Views.{SourceView, SinkView}
use Rattle.coverage_server.specs.declared.server.ConnectionEnd.{ConnectionEnd}
use Rattle.block_file.specs.declared.fault.CloseFault.{CloseFault}
use Rattle.block_file.specs.declared.fault.CloseFault.TheVariants as closing
use Rattle.coverage_server.specs.Damage.{IsIntactIn, IsIntactNamed}
use Rattle.coverage_server.specs.Disk.{DiskView, ListsStore}
use Rattle.coverage_server.specs.Leaving.{Continues}
use Rattle.coverage_server.specs.Runs.{Placed, begun_with, jobless, with_failures}
use Rattle.raster_store.specs.Views.{Index, AreIntact, listed_snapshots}
use Rattle.coverage_server.specs.Represents.{Places}
use Rattle.coverage_server.specs.Serves.{Ends, ServesConnection, TellsEnd, ends_of}
use Rattle.coverage_server.specs.Sessions.{AreServed, IsNotClosed, IsLeft, IsOpenedFrom, ServesAll, ServesUnclosed, Sessions, ServesSessions, ends_all}
use Rattle.coverage_server.specs.Views.{ServerView, SessionView, IsSound, without_held, without_jobs}
use Rattle.coverage_server.proofs.HeldLemmas.{lists_none}
use Rattle.coverage_server.proofs.LettingLemmas.{sound_unheld, places_jobless}
use Rattle.coverage_server.proofs.PlacedLemmas.{places-same}

-- connections and then others
pub all-append : (first second : List Ends) (old mid new : Placed) → ServesAll first old mid → ServesAll second mid new
    → ServesAll (first ++ second) old new
all-append [] second old mid new x y = subst (λ (s : Placed). ServesAll second s new) x y
all-append (e ∷ first) second old mid new x y = (x.0, x.1, x.2, x.3, all-append first second x.0 mid new x.4 y)

-- all sessions of a list are what one machine does
pub composed : (sessions : List (List Ends)) (old new : DiskView) → Sessions sessions old new → IsTrue old.honest
    → (store : Store) (indexes : List (List Index)) → ListsStore old.content store indexes
    → (intact : List (List ℕ)) → All (IsIntactIn old.content store indexes) intact
    → (last : Placed) × ListsStore new.content last.state.store last.layout.indexes
    × All (IsIntactIn new.content last.state.store last.layout.indexes) last.intact
    × (AreIntact old.content store indexes → AreIntact new.content last.state.store last.layout.indexes)
    × (new.failures ≡ last.failures) × ServesSessions sessions store indexes intact old.failures last
composed [] old new x honest store indexes lists intact whole = (
  begun_with store indexes intact old.failures,
  subst (λ (v : DiskView). ListsStore v.content store indexes) (sym x) lists,
  subst (λ (v : DiskView). All (IsIntactIn v.content store indexes) intact) (sym x) whole,
  λ spelled. subst (λ (v : DiskView). AreIntact v.content store indexes) (sym x) spelled,
  ap (λ (v : DiskView). v.failures) x,
  refl,
)
composed (ends ∷ sessions) old new x honest store indexes lists intact whole =
    let mid : DiskView = x.0 in
    let first = x.1 honest store indexes lists intact whole in
    let then_store = first.0.state.store in
    let then_indexes = first.0.layout.indexes in
    let kept : AreIntact old.content store indexes → AreIntact mid.content then_store then_indexes = first.3 in
    let later = composed sessions mid new x.3 (subst IsTrue (sym x.2) honest) then_store then_indexes first.1
    first.0.intact first.2 in
    let then_on : ServesSessions sessions then_store then_indexes first.0.intact first.0.failures later.0 = subst
    (λ (n : ℕ). ServesSessions sessions then_store then_indexes first.0.intact n later.0) first.4 later.5 in (
      later.0,
      later.1,
      later.2,
      λ spelled. later.3 (kept spelled),
      later.4,
      (first.0, first.5, then_on),
    )

-- a server without jobs, for which nothing is held, has the state and the layout with which a session begins
pub begins : (v : SessionView) → v.desk ≡ record { jobs = []; next = Some 1 } → v.coverages.held ≡ []
    → (store : Store) (indexes : List (List Index)) → v.coverages.store ≡ store → v.coverages.indexes ≡ indexes
    → (content : List ℕ) → ((name : List ℕ) → IsIntactIn content v.coverages.store v.coverages.indexes name
    → IsIntactNamed v.coverages name) → (intact : List (List ℕ)) → All (IsIntactIn content store indexes) intact
    → (failures : ℕ) → v.coverages.failures ≡ failures → Places v (begun_with store indexes intact failures)
begins v none unheld store indexes is alike content spelled intact whole failures count = record {
  state = record { store = sym is; jobs = rw none tt; next = rw none refl };
  layout = rw (unheld, alike) refl;
  intact = λ sure.
      All-weaker (IsIntactIn content store indexes) (IsIntactNamed v.coverages)
      (λ name own. spelled name
      (subst (λ (s : Store). IsIntactIn content s v.coverages.indexes name) (sym is)
      (subst (λ (l : List (List Index)). IsIntactIn content store l name) (sym alike) own))) intact whole;
  held = λ sure. rw unheld tt;
  blocks = λ sure k more. absurd (let lists : listed_snapshots v.coverages.held k ≡ 0 = rw unheld (lists_none k) in
      omega (arith, lists, more));
  failures = sym count;
}

-- where each tile that the disk lists is spelled, what was opened is sound
pub sound_from : (content : List ℕ) (v : ServerView) (store : Store) (indexes : List (List Index)) → v.store ≡ store → v.indexes ≡ indexes
    → (AreIntact content v.store v.indexes → IsSound v) → AreIntact content store indexes → IsSound v
sound_from content v store indexes same alike sound intact =
    sound (subst (λ (s : Store). AreIntact content s v.indexes) (sym same) (subst (λ (i : List (List Index)). AreIntact content store i) (sym alike) intact))

-- what a refused close tells of the disk's failures, since the last connection
close_tells : (fault : CloseFault) (old left : ServerView) (n : ℕ) → n ≡ old.failures → IsNotClosed fault old left
    → Tells (fault ≡ closing.DiskFault) n left.failures
close_tells closing.NoMemory old left n is refused = record {
  told = λ e. absurd (let no : closing.NoMemory ≡ closing.DiskFault = e in cc);
  quiet = λ none. (refused.no_memory refl).1 ∙ sym is;
}
close_tells closing.DiskFault old left n is refused = record {
  told = λ e. subst (λ (k : ℕ). Rose k left.failures) (sym is) (refused.disk_fault refl);
  quiet = λ none. absurd (none refl);
}

-- a session whose server was not closed
pub unclosed : (fault : CloseFault) (ends : List Ends) (disk : DiskView) (opened served left : SessionView)
    → (IsTrue disk.honest → IsOpenedFrom disk.content opened.coverages)
    → opened.desk ≡ record { jobs = []; next = Some 1 } → opened.coverages.held ≡ []
    → opened.coverages.honest ≡ disk.honest → opened.coverages.failures ≡ disk.failures
    → opened.coverages.overreads ≡ disk.overreads → AreServed ends opened served → Continues opened.coverages served.coverages
    → IsNotClosed fault served.coverages left.coverages → left.desk ≡ served.desk → ServesUnclosed fault ends disk left
unclosed fault ends disk opened served left opens desk unheld honest count inside serves keeps refused same_desk =
    let more : opened.coverages.failures ≤ served.coverages.failures = keeps.no_fewer in
    record {
      served = λ truly store indexes lists intact whole.
          let from = opens truly in
          let found = from.lists.only store indexes lists in
          let sure : IsTrue opened.coverages.honest = subst IsTrue (sym honest) truly in
          let kept : IsTrue served.coverages.honest = subst IsTrue (sym keeps.honest) sure in
          let sound = sound_from disk.content opened.coverages store indexes found.0 found.1 from.sound in
          let began = begins opened desk unheld store indexes found.0 found.1 disk.content from.spelled intact
          whole disk.failures count in
          let run = serves sure (begun_with store indexes intact disk.failures) began in (
            λ spelled. refused.sound (keeps.sound (sound spelled)),
            run.0,
            inl (places-same served left kept refused.unchanged (refused.spelled kept) same_desk run.0 run.1),
            close_tells fault served.coverages left.coverages run.0.failures run.1.failures refused,
            run.2,
          );
      disk_fault = λ e.
          let rose : Rose served.coverages.failures left.coverages.failures = refused.disk_fault e in
          omega (arith, rose, count, more);
      no_memory = λ e truly.
          let blocks = length opened.coverages.content / 4096 in
          (blocks, (refused.no_memory e).0 Open blocks 0 0 (keeps.header Open blocks 0 0 (opens truly).header.0));
      honest = refused.honest ∙ keeps.honest ∙ honest;
      no_fewer =
          let fewer : served.coverages.failures ≤ left.coverages.failures = refused.no_fewer in
          omega (arith, count, more, fewer);
      overreads = refused.overreads ∙ keeps.overreads ∙ inside;
    }

-- a server whose second close was refused, after its jobs were let go
pub unclosed_again : (fault : CloseFault) (ends : List Ends) (disk : DiskView) (mid left : SessionView)
    → ServesUnclosed closing.NoMemory ends disk mid → IsNotClosed fault (without_held mid.coverages) left.coverages
    → left.desk ≡ (without_jobs mid).desk → ServesUnclosed fault ends disk left
unclosed_again fault ends disk mid left before refused jobs =
    let more : mid.coverages.failures ≤ left.coverages.failures = refused.no_fewer in
    let fewer : disk.failures ≤ mid.coverages.failures = before.no_fewer in
    record {
      served = λ truly store indexes lists intact whole.
          let was = before.served truly store indexes lists intact whole in
          let sure : IsTrue mid.coverages.honest = subst IsTrue (sym before.honest) truly in
          let n = mid.coverages.failures in
          let here : Places (without_jobs mid) (with_failures n (jobless was.1)) = elim was.2 [
            | inl with_jobs ↦ places_jobless mid (with_failures n was.1) with_jobs
            | inr without ↦ places_jobless mid (with_failures n (jobless was.1)) without
          ] in
          let quiet : n ≡ was.1.failures = was.3.quiet (λ e. absurd (let no : closing.NoMemory ≡ closing.DiskFault = e in cc)) in (
            λ spelled. refused.sound (sound_unheld mid.coverages (was.0 spelled)),
            was.1,
            inr (places-same (without_jobs mid) left sure refused.unchanged (refused.spelled sure) jobs (with_failures n (jobless was.1)) here),
            close_tells fault (without_held mid.coverages) left.coverages was.1.failures (sym quiet) refused,
            was.4,
          );
      disk_fault = λ e.
          let rose : Rose mid.coverages.failures left.coverages.failures = refused.disk_fault e in
          omega (arith, rose, fewer);
      no_memory = λ e truly.
          let was = before.no_memory refl truly in
          (was.0, (refused.no_memory e).0 Open was.0 0 0 was.1);
      honest = refused.honest ∙ before.honest;
      no_fewer = omega (arith, more, fewer);
      overreads = refused.overreads ∙ before.overreads;
    }

-- a server that was left where a close is made once more
pub unclosed_left : (fault : CloseFault) (ends : List Ends) (disk : DiskView) (served left : SessionView)
    → ((first : CloseFault) (mid : SessionView) → IsNotClosed first served.coverages mid.coverages
    → mid.desk ≡ served.desk → ServesUnclosed first ends disk mid)
    → IsLeft fault served left → ServesUnclosed fault ends disk left
unclosed_left fault ends disk served left once is = elim is [
  | inl first ↦ once fault left first.1 first.2
  | inr twice ↦ unclosed_again fault ends disk twice.mid left
      (once closing.NoMemory twice.mid twice.first twice.desk) twice.second twice.jobs
]

module _ {R W : Type 0} where
  pub rest_kept : (xs ys : List (R × W)) (i : ℕ) (y : R × W) → drop i ys ≡ drop i xs → drop (i + 1) (slice_set ys i y) ≡ drop (i + 1) xs
  rest_kept xs ys i y e = drop-set-lt (i + 1) ys i y (omega arith) ∙ sym (drop-drop 1 i ys) ∙ ap (drop 1) e ∙ drop-drop 1 i xs

  same_at : (xs ys : List (R × W)) (i : ℕ) (d : R × W) → drop i ys ≡ drop i xs → get_or xs i d ≡ get_or ys i d
  same_at xs ys i d e =
      let here : i + 0 ≡ i = omega arith in
      subst (λ k. get_or xs k d ≡ get_or ys k d) here
      (sym (get_or-drop i xs 0 d) ∙ ap (λ (l : List (R × W)). get_or l 0 d) (sym e) ∙ get_or-drop i ys 0 d)

  module _ (source : R → SourceView) (sink : W → SinkView) where
    ends-push : (xs ys : List (R × W)) (x y : R × W) → length xs ≡ length ys
        → ends_all source sink (xs ++ x ∷ []) (ys ++ y ∷ [])
        ≡ ends_all source sink xs ys ++ ends_of source sink x.0 y.0 x.1 y.1 ∷ []
    ends-push [] [] x y e = refl
    ends-push [] (b ∷ bs) x y e = absurd (omega (arith, e))
    ends-push (a ∷ rest) [] x y e = absurd (omega (arith, e))
    ends-push (a ∷ rest) (b ∷ bs) x y e =
        ap (λ (l : List Ends). ends_of source sink a.0 b.0 a.1 b.1 ∷ l) (ends-push rest bs x y (omega (arith, e)))

    -- the ends of one connection more
    ends-more : (xs ys : List (R × W)) (i : ℕ) (d y : R × W) → length ys ≡ length xs → i < length xs → drop i ys ≡ drop i xs
        → ends_all source sink (take (i + 1) xs) (take (i + 1) (slice_set ys i y))
        ≡ ends_all source sink (take i xs) (take i ys)
        ++ ends_of source sink (get_or ys i d).0 y.0 (get_or ys i d).1 y.1 ∷ []
    ends-more xs ys i d y long inside e =
        let within : i < length ys = omega (arith, long, inside) in
        ap (λ (l : List (R × W)). ends_all source sink l (take (i + 1) (slice_set ys i y))) (take_more xs i d inside ∙ ap (λ (z : R × W). take i xs ++ z ∷ []) (same_at xs ys i d e))
        ∙ ap (λ (l : List (R × W)). ends_all source sink (take i xs ++ get_or ys i d ∷ []) l) (take_more_set ys i y within)
        ∙ ends-push (take i xs) (take i ys) (get_or ys i d) y (take_long i xs ys long)
      where
        take_long : (i : ℕ) (first second : List (R × W)) → length second ≡ length first → length (take i first) ≡ length (take i second)
        take_long zero first second e = refl
        take_long (suc i) [] [] e = refl
        take_long (suc i) [] (b ∷ second) e = absurd (omega (arith, e))
        take_long (suc i) (a ∷ first) [] e = absurd (omega (arith, e))
        take_long (suc i) (a ∷ first) (b ∷ second) e = ap suc (take_long i first second (omega (arith, e)))

    -- one connection more is served
    pub served-more : (xs ys : List (R × W)) (i : ℕ) (d y : R × W) (old mid new : Placed) (end : ConnectionEnd)
        → length ys ≡ length xs → i < length xs → drop i ys ≡ drop i xs
        → ServesAll (ends_all source sink (take i xs) (take i ys)) old mid
        → TellsEnd (ends_of source sink (get_or ys i d).0 y.0 (get_or ys i d).1 y.1) end
        → ServesConnection (ends_of source sink (get_or ys i d).0 y.0 (get_or ys i d).1 y.1) mid new end
        → ServesAll (ends_all source sink (take (i + 1) xs) (take (i + 1) (slice_set ys i y))) old new
    served-more xs ys i d y old mid new end long inside e x told c =
        subst (λ (ends : List Ends). ServesAll ends old new) (sym (ends-more xs ys i d y long inside e))
        (all-append (ends_all source sink (take i xs) (take i ys))
        (ends_of source sink (get_or ys i d).0 y.0 (get_or ys i d).1 y.1 ∷ []) old mid new x (new, end, told, c, refl))
