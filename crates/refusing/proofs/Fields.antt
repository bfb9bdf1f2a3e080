-- A `&` to a `Refusing` gives a `&` to each of its two fields. Both walks start from this.
use Rattle.std.proofs.Common.{ℕ, ◌+◌, [], ◌∷◌, refl, Bor}
use seplogic.Ra.Ura.{Ura}
use base.Logic.{ent, sep, id⊢}
use base.Fml.{Lft, Fml}
use mir.Syntax.{named}
use prog.Memory.{size, align, up}
use types.Logic.{Logic, sem}
use types.Kit.{‵, ◌$◌, ◌∵◌, !, qed, done, drop, move, keep, fsplit, fjoin, use1, feq_i}
use denote.Memory.{lone, shared_of, hidden_shr}
use denote.Param.{layout, param}
use denote.RattleType.{RattleType}
use denote.Ref.{ShrRef, shr_vals}
use Rattle.refusing.specs.contracts.Refusing
use Rattle.refusing.specs.contracts.requests.Requests
use Rattle.refusing.specs.declared.Refusing as declared

-- what a `&` owns
abbrev owned_by : Lft → (R : RattleType) → Bor R.Denot → Fml
owned_by κ R r = (ShrRef (named 0) κ R).own_val r (shr_vals r)

module _ (B : RattleType) where
  abbrev Whole : RattleType
  Whole = Refusing.the_row (param 0 B)

  abbrev Counted : RattleType
  Counted = Requests.the_row

  -- where the fields lie in the struct
  abbrev inner_offset : ℕ
  inner_offset = up (align (layout B)) 0

  abbrev requests_offset : ℕ
  requests_offset = up (align (lone Counted.mir)) (inner_offset + size (layout B))

  module _ (r : Bor (declared.Refusing B.Denot)) where
    abbrev pub inner_of : Bor B.Denot
    inner_of = record { ref_ptr = (r.ref_ptr.0, r.ref_ptr.1 + inner_offset); now = r.now.inner }

    abbrev pub requests_of : Bor Counted.Denot
    requests_of = record { ref_ptr = (r.ref_ptr.0, r.ref_ptr.1 + requests_offset); now = r.now.requests }

    module _ (κ : Lft) where
      abbrev pub whole_owned : Fml
      whole_owned = owned_by κ Whole r

      abbrev pub inner_owned : Fml
      inner_owned = owned_by κ (param 0 B) inner_of

      abbrev pub requests_owned : Fml
      requests_owned = owned_by κ Counted requests_of

      pub fields_lent : {M : Type 1} {𝓤 : Ura M} (𝓛 : Logic 𝓤) → ent 𝓤 (sem 𝓛 whole_owned) (sep 𝓤 (sem 𝓛 inner_owned) (sem 𝓛 requests_owned))
      fields_lent {𝓤 = 𝓤} 𝓛 =
          let b = r.ref_ptr.0 in let o = r.ref_ptr.1 in
          qed 𝓛 (‵ whole_owned ∷ []) ∵ fsplit ! $ drop ! $ use1 𝓛 (‵ (shared_of Whole r.now b o κ)) (id⊢ 𝓤 _) $
          fsplit ! $ fsplit ! $ move ! (1 ∷ []) $ fsplit ! $ keep ! (0 ∷ 2 ∷ []) $
          -- [the requests; the inner allocator]
          use1 𝓛 (‵ (hidden_shr Counted κ r.now.requests b (o + requests_offset))) (id⊢ 𝓤 _) $ feq_i ! _ (shr_vals requests_of) _ refl $ fjoin ! $ move ! (1 ∷ []) $
          use1 𝓛 (‵ (hidden_shr (param 0 B) κ r.now.inner b (o + inner_offset))) (id⊢ 𝓤 _) $ feq_i ! _ (shr_vals inner_of) _ refl $ fjoin ! $ done !
