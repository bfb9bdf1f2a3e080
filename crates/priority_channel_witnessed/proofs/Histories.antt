-- A history that grows by an entry.
use Rattle.std.proofs.Common.{ℕ, Bool, List, [], ◌∷◌, ◌++◌, refl, subst}
use Rattle.priority_channel_calls.specs.Told.{Makes}
use Rattle.priority_channel_core.specs.Prelude.{State, opening, Operation, Run, Ordering}
use Rattle.priority_channel_witnessed.specs.declared.chronicle.Entry.{Entry}
use Rattle.priority_channel_witnessed.specs.History.{HasSteps, Lead, IsHistory, IsLegal, IsNext}
use Rattle.priority_channel_witnessed.specs.Passes.{Carried, IsTold}

module _ {T P W : Type 0} (cmp : P → P → Ordering) (is_clone : W → W → Type 0) where
  lead_more : (old mid new : State T P W) (history : List (Entry T P W)) (last : Entry T P W)
      → Lead cmp is_clone old history mid → Makes cmp is_clone mid last.told last.handed new
      → Lead cmp is_clone old (history ++ last ∷ []) new
  lead_more old mid new [] last same makes = (new, subst (λ s. Makes cmp is_clone s last.told last.handed new) same makes, refl)
  lead_more old mid new (entry ∷ more) last leads makes = (leads.0, leads.1, lead_more leads.0 mid new more last leads.2 makes)

  pub history_more : (capacity : ℕ) (is_reserved : Bool) (old new : State T P W) (history : List (Entry T P W)) (last : Entry T P W)
      → IsHistory cmp is_clone capacity is_reserved history old → Makes cmp is_clone old last.told last.handed new
      → IsHistory cmp is_clone capacity is_reserved (history ++ last ∷ []) new
  history_more capacity is_reserved old new history last is makes =
      record { leads = lead_more (opening capacity is_reserved) old new history last is.leads makes }

  -- nothing was called yet
  pub history_none : (capacity : ℕ) (is_reserved : Bool) → IsHistory {T = T} cmp is_clone capacity is_reserved [] (opening capacity is_reserved)
  history_none capacity is_reserved = record { leads = refl }

  pub legal_of : (capacity : ℕ) (is_reserved : Bool) (history : List (Entry T P W)) (state : State T P W)
      → IsHistory cmp is_clone capacity is_reserved history state → IsLegal cmp is_clone capacity is_reserved history
  legal_of capacity is_reserved history state is = record { state = state; is = is }

  run_after : (old mid new : State T P W) (first second : List (Operation T P W)) → Run cmp is_clone old first mid → Run cmp is_clone mid second new
      → Run cmp is_clone old (first ++ second) new
  run_after old mid new [] second same run = subst (λ s. Run cmp is_clone s second new) same run
  run_after old mid new (made ∷ more) second first run = (first.0, first.1, run_after first.0 mid new more second first.2 run)

  -- the steps of a history are a run of the machine
  steps_of : (old new : State T P W) (history : List (Entry T P W)) → Lead cmp is_clone old history new
      → (run : List (Operation T P W)) × HasSteps history run × Run cmp is_clone old run new
  steps_of old new [] same = ([], refl, same)
  steps_of old new (entry ∷ more) leads =
      let later = steps_of leads.0 new more leads.2 in
      let own = leads.1 in
      (own.run ++ later.0, (own.run, later.0, own.means, later.1, refl), run_after old leads.0 new own.run later.0 own.leads later.2)

  pub history_run : (capacity : ℕ) (is_reserved : Bool) (history : List (Entry T P W)) (state : State T P W)
      → IsHistory cmp is_clone capacity is_reserved history state
      → (run : List (Operation T P W)) × HasSteps history run × Run cmp is_clone (opening capacity is_reserved) run state
  history_run capacity is_reserved history state is = steps_of (opening capacity is_reserved) state history is.leads

  -- a history's last call
  last_of : (old new : State T P W) (before : List (Entry T P W)) (last : Entry T P W) → Lead cmp is_clone old (before ++ last ∷ []) new
      → (mid : State T P W) × Lead cmp is_clone old before mid × ((after : State T P W) × Makes cmp is_clone mid last.told last.handed after)
  last_of old new [] last leads = (old, refl, (leads.0, leads.1))
  last_of old new (entry ∷ before) last leads =
      let more = last_of leads.0 new before last leads.2 in (more.0, (leads.0, leads.1, more.1), more.2)

  pub last_made : (capacity : ℕ) (is_reserved : Bool) (before : List (Entry T P W)) (last : Entry T P W)
      → IsLegal cmp is_clone capacity is_reserved (before ++ last ∷ []) → IsNext cmp is_clone capacity is_reserved before last
  last_made capacity is_reserved before last legal =
      let k = last_of (opening capacity is_reserved) legal.state before last legal.is.leads in
      record { old = k.0; new = k.2.0; so_far = record { leads = k.1 }; made = k.2.1 }

  -- what was told of came behind all that had been seen
  pub told_made : (capacity : ℕ) (is_reserved : Bool) (old new : Carried T P W) (last : Entry T P W) → IsTold cmp is_clone capacity is_reserved old last new
      → (between : List (Entry T P W)) × IsNext cmp is_clone capacity is_reserved (old.seen ++ between) last
  told_made capacity is_reserved old new last told =
      (told.between, last_made capacity is_reserved (old.seen ++ told.between) last (subst (λ (l : List (Entry T P W)). IsLegal cmp is_clone capacity is_reserved l) told.seen told.legal))
