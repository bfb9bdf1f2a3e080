use Rattle.std.proofs.Common.{◌<◌, ℕ, List, map, take, length, arith, ap, sym, ◌∙◌}
use Rattle.std.proofs.lemmas.List.{map-append, take_more}
use Rattle.std.proofs.lemmas.List.Sorted.{IsPermutation-refl, IsPermutation-pop_more}
use Rattle.priority_channel_witnessed.specs.Passes.{Carried}
use Rattle.priority_channel_witnessed.proofs.numbers.strike_all.Goals as goal

pub loop-at-init : goal.loop-at-init
loop-at-init g c = record { struck = IsPermutation-refl _ }

pub loop-at-preserved : goal.loop-at-preserved
loop-at-preserved g c =
    let passes : List (Carried g.row.T.Denot g.row.P.Denot g.row.W.Denot) = c.args.passes.now.items in
    let number : Carried g.row.T.Denot g.row.P.Denot g.row.W.Denot → ℕ = λ pass. pass.number in
    let at = c.loop-at.at in
    let within : at < length passes = omega (arith, c.loop-at-test.true, c.len-at-end.ensures, c.args.passes.now.ok.0) in
    let own = c.number.ensures ∙ ap number c.index-pass.ensures in
    record {
      struck = rw (take_more passes at c.index-pass.result.now within, map-append number (take at passes) _, sym own)
          (IsPermutation-pop_more c.args.out.now.items (map number (take at passes)) c.loop-at.out.items c.strike.new.out.items c.number.result c.loop-at.invariant.struck c.strike.ensures.struck);
    }
