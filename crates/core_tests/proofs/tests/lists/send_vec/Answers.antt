use Rattle.std.proofs.Common.{◌∙◌, arith}
use Rattle.std.proofs.lemmas.Iterator.Adapters.{YieldsList-from_vec}
use Rattle.core_tests.proofs.Lists.{accepted_of_list}
use Rattle.core_tests.proofs.tests.lists.send_vec.Goals as goal

-- The vector's iterator gives the vector's items, and nobody has peeked.
pub returns : goal.returns
returns c =
    accepted_of_list _ _ _ _ _ _ c.args.pairs.items _ _
    (c.list_law.ensures c.peekable.result c.args.pairs.items c.peekable.ensures.peeked
    (rw c.peekable.ensures.source (YieldsList-from_vec c.args.pairs.items c.into_iter.ensures.rest (c.into_iter.ensures.len ∙ c.args.pairs.ok.0)).runs))
    c.try_sendv-wakes.ensures.step c.requires.opened c.requires.reserved (omega (arith, c.requires.numbers, c.args.pairs.ok.0))
