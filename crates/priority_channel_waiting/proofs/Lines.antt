-- The threads behind the head.
use Rattle.std.specs.Prelude.{◌++◌, List, Option, Some, None, option_to_list, All}
use Rattle.std.proofs.lemmas.List.Elements.{All-tail}

pub all_behind : {X : Type 0} (P : X → Type 0) (first : Option X) (others : List X) → All P (option_to_list first ++ others) → All P others
all_behind P None others all = all
all_behind P (Some first) others all = All-tail P first others all
