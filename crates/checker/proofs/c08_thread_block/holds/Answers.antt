use Rattle.std.proofs.Common.{◌≡◌, ◌∙◌, Bool, List, ℕ, arith, subst, sym}
use Rattle.std.specs.Prelude.{◌↔◌, IsTrue}
use Rattle.elf_model.specs.Link.Placement as placement
use Rattle.elf_model.specs.Image.RightLink.{IsThreadBlockRight, Subject, placed_of}
use Rattle.elf_model.specs.declared.verdict.Clause.TheVariants.{C5}
use Rattle.check_link.specs.PieceParts.{IsGotInLimit}
use Rattle.checker.specs.ThreadBlock.{IsBlockRight}
use Rattle.check_link.specs.Views.{placed_views}
use Rattle.checker.proofs.PlacedFacts.{got_in_limit, in_limit}
use Rattle.checker.proofs.c08_thread_block.holds.Goals as goal

as_clause :
    (s t : Subject) (b : Bool) (base : ℕ) (qs : List placement.Placed) (image : List ℕ) → t ≡ s → base ≡ t.plan.base → qs ≡ placed_of s → image ≡ s.image →
    (IsTrue b ↔ IsBlockRight base t.map.got qs image) → IsTrue b ↔ IsThreadBlockRight s
as_clause s t b base qs image one is placed same told =
    let i = subst (λ (bytes : List ℕ). IsTrue b ↔ IsBlockRight base t.map.got qs bytes) same told in
    let q = subst (λ (rs : List placement.Placed). IsTrue b ↔ IsBlockRight base t.map.got rs s.image) placed i in
    let p = subst (λ (n : ℕ). IsTrue b ↔ IsBlockRight n t.map.got (placed_of s) s.image) is q in
    let o = subst (λ (u : Subject). IsTrue b ↔ IsBlockRight u.plan.base u.map.got (placed_of s) s.image) one p in (
      λ e. let r = o.0 e in record { headers = r.headers; before = r.before; clear = r.clear; held = r.held },
      λ r. o.1 (record { headers = r.headers; before = r.before; clear = r.clear; held = r.held }),
    )

-- of the clauses before, the fifth says where the pieces and the GOT end
pub is_thread_block_right-requires-clause-got : goal.is_thread_block_right-requires-clause-got
is_thread_block_right-requires-clause-got c =
    subst (λ (s : Subject). IsGotInLimit s.map.got) (sym (c.link.view_is ∙ c.link-link.ensures)) (got_in_limit c.args.bound.now (c.requires C5 (omega arith)))

pub is_thread_block_right-requires-clause-pieces : goal.is_thread_block_right-requires-clause-pieces
is_thread_block_right-requires-clause-pieces c = in_limit c.args.bound.now c.placed.result.now c.placed.ensures (c.requires C5 (omega arith))

pub returns : goal.returns
returns c =
    as_clause c.args.bound.now _ c.is_thread_block_right.result c.base_of-base.result (placed_views c.placed.result.now) c.memory.result.now
    (c.link.view_is ∙ c.link-link.ensures) c.base_of-base.ensures c.placed.ensures c.memory.ensures c.is_thread_block_right.ensures
