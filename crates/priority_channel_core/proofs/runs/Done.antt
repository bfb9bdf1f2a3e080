-- When a channel closes that is to close once all is done.
use Rattle.std.proofs.Common.{◌≡◌, ◌≢◌, ℕ, true≢false, ◌⊎◌, Bool, true, false, ◌&&◌, ◌||◌, ◌==◌, ◌-◌, List, [], ◌∷◌, length, refl, ap, sym, ◌∙◌, arith, inl, inr}
use Rattle.std.specs.List.{All, AllByRecursion}
use Rattle.std.proofs.lemmas.Bool.Decides.{nat_tests}
use Rattle.std.proofs.lemmas.List.Elements.{recursion_from_All}
use Rattle.priority_channel_core.specs.Prelude.{State, Handed, IsGood, opening, Does, after, is_done, settled, Moves, Step, Calls, Answers, Operation, Run, Ordering, Call, Room, Message, Change}
use Rattle.priority_channel_core.specs.laws.Done.{Closes}
use Rattle.priority_channel_core.specs.laws.Places.{got_in}
use Rattle.priority_channel_core.proofs.runs.Changes.{Account, Fits, changed}
use Rattle.priority_channel_core.proofs.runs.Places.{run_counts}

unless : (b : Bool) → (b ≡ true → ⊥) → b ≡ false
unless true never = absurd (never refl)
unless false never = refl

both : (c e d : Bool) → c ≡ false → (c || (e && d)) ≡ true → (e ≡ true) × (d ≡ true)
both true e d opened h = absurd (cc)
both false false d opened h = absurd (cc)
both false true d opened h = (refl, h)

first : (b c : Bool) → c ≡ false → (b || c) ≡ true → b ≡ true
first true c opened h = refl
first false c opened h = absurd (cc)

-- The mark stays, and comes by what `marks` says. An open channel is closed by what `closes` says,
-- or if all is done.
pub record Shows {T P W : Type 0} (closes marks : Type 0) (old new : State T P W) : Type 0 where
  pub stays : old.ends_when_done ≡ true → new.ends_when_done ≡ true
  pub comes : new.ends_when_done ≡ true → (old.ends_when_done ≡ true) ⊎ marks
  pub shuts : old.is_closed ≡ false → new.is_closed ≡ true → closes ⊎ ((new.ends_when_done ≡ true) × (is_done new ≡ true))

module _ {T P W : Type 0} {closes marks : Type 0} (old new : State T P W) where
  same : (s : State T P W) → new ≡ s → s.ends_when_done ≡ old.ends_when_done → s.is_closed ≡ old.is_closed → Shows closes marks old new
  same s is ends closed =
      let mark = ap (λ (r : State T P W). r.ends_when_done) is ∙ ends in
      record {
        stays = λ marked. mark ∙ marked;
        comes = λ marked. inl (sym mark ∙ marked);
        shuts = λ opened shut. let still = ap (λ (r : State T P W). r.is_closed) is ∙ closed ∙ opened in absurd (cc);
      }

  settles : (s : State T P W) → new ≡ settled s → s.ends_when_done ≡ old.ends_when_done → s.is_closed ≡ old.is_closed → Shows closes marks old new
  settles s is ends closed =
      let mark = ap (λ (r : State T P W). r.ends_when_done) is ∙ ends in
      record {
        stays = λ marked. mark ∙ marked;
        comes = λ marked. inl (sym mark ∙ marked);
        shuts = λ opened shut.
            let done = both s.is_closed s.ends_when_done (is_done s) (closed ∙ opened) (sym (ap (λ (r : State T P W). r.is_closed) is) ∙ shut) in
            inr (ap (λ (r : State T P W). r.ends_when_done) is ∙ done.0, ap is_done is ∙ done.1);
      }

  shuts_by : (s : State T P W) → new ≡ s → s.ends_when_done ≡ old.ends_when_done → closes → Shows closes marks old new
  shuts_by s is ends by =
      let mark = ap (λ (r : State T P W). r.ends_when_done) is ∙ ends in
      record { stays = λ marked. mark ∙ marked; comes = λ marked. inl (sym mark ∙ marked); shuts = λ opened shut. inl by }

  counts_by : (s : State T P W) (n : ℕ) → new ≡ s → s.ends_when_done ≡ old.ends_when_done → s.is_closed ≡ ((n == 0) || old.is_closed) → (n ≡ 0 → closes)
      → Shows closes marks old new
  counts_by s n is ends closed by =
      let mark = ap (λ (r : State T P W). r.ends_when_done) is ∙ ends in
      record {
        stays = λ marked. mark ∙ marked;
        comes = λ marked. inl (sym mark ∙ marked);
        shuts = λ opened shut.
            let none = first (n == 0) old.is_closed opened (sym (ap (λ (r : State T P W). r.is_closed) is ∙ closed) ∙ shut) in
            inl (by (grind (arith, nat_tests)));
      }

  marks_by : new ≡ after old Change.Marks → marks → Shows closes marks old new
  marks_by is by =
      let mark = ap (λ (r : State T P W). r.ends_when_done) is in
      record {
        stays = λ marked. mark;
        comes = λ marked. inr by;
        shuts = λ opened shut.
            let done = first (is_done old) old.is_closed opened (sym (ap (λ (r : State T P W). r.is_closed) is) ∙ shut) in
            inr (mark, ap is_done is ∙ done);
      }

  shows_by : (unlists : Type 0) (cmp : P → P → Ordering) (handed : Handed W) (by : Change T P) (a : Account T P) → Fits cmp old closes marks unlists a by → Does old handed new by
      → Shows closes marks old new
  shows_by u cmp handed (Change.GoesOut left) a f d = settles (record old { pending = left; waiters = record old.waiters { room = [] } }) d.1 refl refl
  shows_by u cmp handed Change.Frees a f d = settles (record old { held = old.held - 1; waiters = (after old Change.Frees).waiters }) d.1 refl refl
  shows_by u cmp handed Change.Shuts a f d = shuts_by _ d.1 refl f.0
  shows_by u cmp handed Change.Marks a f d = marks_by d.1 f.0
  shows_by u cmp handed (Change.Counts Room n) a f d = counts_by _ n d.1 refl refl f.0
  shows_by u cmp handed (Change.Counts Message n) a f d = counts_by _ n d.1 refl refl f.0
  shows_by u cmp handed by a f d = same _ d.1 refl refl

-- a poll's listing neither marks nor shuts
shows_rest : {T P W : Type 0} {closes marks : Type 0} (old mid new : State T P W) → new ≡ record mid { waiters = new.waiters } → Shows closes marks old mid → Shows closes marks old new
shows_rest {T} {P} {W} old mid new rests told =
    let mark = ap (λ (r : State T P W). r.ends_when_done) rests in
    record {
      stays = λ marked. mark ∙ told.stays marked;
      comes = λ marked. told.comes (sym mark ∙ marked);
      shuts = rw (mark, ap (λ (r : State T P W). r.is_closed) rests, ap is_done rests) told.shuts;
    }

module _ {T P W : Type 0} (cmp : P → P → Ordering) (is_clone : W → W → Type 0) where
  shows : (old new : State T P W) (handed : Handed W) (made : Calls T P W) (reply : Answers T P) → Moves cmp is_clone old made reply handed new
      → Shows (Closes old made) (made ≡ Call.CloseWhenDone) old new
  shows old new handed made reply h =
      let shown = changed cmp is_clone old new handed made reply h in
      shows_rest old shown.mid new shown.rests (shows_by old shown.mid _ cmp handed shown.by _ shown.fits shown.does)

  pub marked_by : (old new : State T P W) (made : Operation T P W) → Step cmp is_clone old made.call made.answer made.handed new
      → new.ends_when_done ≡ true → (old.ends_when_done ≡ true) ⊎ (made.call ≡ Call.CloseWhenDone)
  marked_by old new made step = (shows old new made.handed made.call made.answer step.moves).comes

  never_marked : (old new : State T P W) (run : List (Operation T P W)) → old.ends_when_done ≡ false → Run cmp is_clone old run new
      → AllByRecursion (λ made. made.call ≢ Call.CloseWhenDone) run → new.ends_when_done ≡ false
  never_marked old new [] opened run never = ap (λ (s : State T P W). s.ends_when_done) run ∙ opened
  never_marked old new (made ∷ more) opened run never =
      let still = unless run.0.ends_when_done (λ marked. elim (marked_by old run.0 made run.1 marked) [
        | inl before ↦ true≢false (sym before ∙ opened)
        | inr asked ↦ never.0 asked
      ]) in
      never_marked run.0 new more still run.2 never.1

  -- without held places and without the mark
  pub plain_run : (capacity : ℕ) (is_reserved : Bool) (new : State T P W) (run : List (Operation T P W)) → Run cmp is_clone (opening capacity is_reserved) run new
      → All (λ made. made.call ≢ Call.CloseWhenDone) run → got_in run ≡ 0 → (new.ends_when_done ≡ false) × (new.held ≡ 0)
  plain_run capacity is_reserved new run goes never none =
      let counts = run_counts cmp is_clone (opening capacity is_reserved) new run goes in
      (never_marked (opening capacity is_reserved) new run refl goes (recursion_from_All _ run never), omega (arith, counts, none))

  pub closes_if_done : (old new : State T P W) (made : Operation T P W) → Step cmp is_clone old made.call made.answer made.handed new
      → old.is_closed ≡ false → new.is_closed ≡ true → Closes old made.call ⊎ ((new.ends_when_done ≡ true) × (is_done new ≡ true))
  closes_if_done old new made step = (shows old new made.handed made.call made.answer step.moves).shuts

  stays : (old new : State T P W) (run : List (Operation T P W)) → IsGood old → Run cmp is_clone old run new → old.ends_when_done ≡ true
      → IsGood new × (new.ends_when_done ≡ true)
  stays old new [] good run marked = (rw run good, ap (λ (s : State T P W). s.ends_when_done) run ∙ marked)
  stays old new (made ∷ more) good run marked =
      stays run.0 new more run.1.good run.2 ((shows old run.0 made.handed made.call made.answer run.1.moves).stays marked)

  pub ends_if_done : (old new : State T P W) (run : List (Operation T P W)) → IsGood old → Run cmp is_clone old run new
      → old.ends_when_done ≡ true → is_done new ≡ true → (new.is_closed ≡ true) × (new.waiters.room ≡ []) × (new.waiters.message ≡ [])
  ends_if_done old new run good goes marked done =
      let end = stays old new run good goes marked in
      let none : (length new.pending ≡ 0) × (new.held ≡ 0) = grind (arith, nat_tests) in
      let closed = end.0.closed_if_done end.1 (omega (arith, none.0, none.1)) in
      let nobody = end.0.no_waiters_if_closed closed in
      (closed, nobody.0, nobody.1 none.1)
