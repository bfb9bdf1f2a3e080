-- Which requests for memory are refused.
use Rattle.std.specs.Prelude.{Bool, true, false, ℕ, ◌==◌}
use Rattle.refusing.specs.declared.requests.Refusals.{Refusals}
use Rattle.refusing.specs.declared.requests.Refusals.TheVariants.{Never, Unmet, After, Always}

-- whether the request that comes after k others is refused
abbrev pub refuses_after : Refusals → ℕ → Bool
refuses_after Never k = false
refuses_after Unmet k = false
refuses_after (After others) k = k == others
refuses_after Always k = true
