-- The handle and its parts own what a box at the same types owns.
use mir.Syntax.{impl, tnil, dnil}
use mathlib.Core.List.{[]}
use mathlib.Core.Path.{◌≡◌, refl, subst}
use mathlib.Core.Bool.{Bool, true, false}
use denote.Signature.{Slot, plain}
use Rattle.std.specs.Prelude.{Option, None, Some, IsSome}
use Rattle.std_alloc.proofs.BoxSteps.Form.{Bx}
use Rattle.std_heap.specs.contracts.Global as Heap
use Rattle.std_heap.specs.contracts.GlobalAllocator.TheImpl.{ghosts, dict}
use Rattle.std_heap.proofs.Global.TheLaws as heap
use Rattle.priority_channel_c.specs.contracts.state.Core as Core
use Rattle.priority_channel_c.proofs.state.Core.TheLaws as core
use Rattle.priority_channel_c.specs.contracts.handle.parts.Parts as Parts
use Rattle.priority_channel_c.specs.contracts.handle.Handle as Handle

abbrev pub E : Bx
E = record { row = Core.the_row; laws = core.the_row_laws; al = record { row = Heap.the_row; laws = heap.the_row_laws; g = ghosts; d = dict; drops = impl [] tnil dnil } }

abbrev pub FromParts : Slot 0
FromParts = plain (λ _. Parts.the_row Core.the_row Heap.the_row ghosts)

abbrev pub FromHandle : Slot 0
FromHandle = plain (λ _. Handle.the_row)

abbrev IsFalse : Bool → Type 0
IsFalse false = Unit {0}
IsFalse true = ⊥

pub there : {X : Type 0} (w : Option X) → IsSome w → (x : X) × (w ≡ Some x)
there None h = absurd (subst IsFalse h tt)
there (Some x) _ = (x, refl)
