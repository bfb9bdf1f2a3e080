-- The steps that a look tells of, in the case that it has come to.
use Rattle.std.proofs.Common.{◌≡◌, ◌⊎◌, inl, subst}
use Rattle.priority_channel_core.specs.Prelude.{State, Handed, Ordering}
use Rattle.priority_channel_calls.specs.Told.{Told, Makes}
use Rattle.priority_channel_waiting.specs.declared.seeking.Sought.{Sought}
use Rattle.priority_channel_waiting.specs.declared.seeking.Sought.TheVariants.{Found, Over, Memory, NotYet}
use Rattle.priority_channel_waiting.specs.Seeking.{IfFound}

module _ {T P W X : Type 0} (cmp : P → P → Ordering) (is_clone : W → W → Type 0)
    (old new : State T P W) (handed : Handed W) (told : Sought X → Told T P W) where
  pub when_found : (sought : Sought X) → Makes cmp is_clone old (told sought) handed new
      → IfFound sought (λ found. Makes cmp is_clone old (told (Found found)) handed new)
  when_found (Found found) makes = makes
  when_found Over makes = tt
  when_found Memory makes = tt
  when_found (NotYet within) makes = tt

  pub when_over : {Other : Type 0} (sought : Sought X) → Makes cmp is_clone old (told sought) handed new
      → sought ≡ Over → Makes cmp is_clone old (told Over) handed new ⊎ Other
  when_over sought makes is = inl (subst (λ s. Makes cmp is_clone old (told s) handed new) is makes)
