use Rattle.std.proofs.lemmas.Result.{IfOk-weaker}
use Rattle.priority_channel_witnessed.proofs.Steps.{balanced}
use Rattle.priority_channel_witnessed.proofs.uses.balance.try_settle.Goals as goal

pub returns : goal.returns
returns g c = record {
  balanced = IfOk-weaker c.try_end.result _ _ (λ ended history. balanced g.P.Ord.cmp g.W.Clone.is_clone _ _ _ _ history) c.try_end.ensures.leads;
  back = c.try_end.ensures.back;
}
