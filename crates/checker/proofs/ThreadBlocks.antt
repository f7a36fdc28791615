-- The PT_TLS header, and where its initial bytes are found.
use Rattle.std.proofs.Common.{◌≡◌, ℕ, ◌<◌, Bool, List, Option, Some, None, sym, subst, ◌∙◌, arith}
use Rattle.std.specs.Prelude.{◌↔◌, All, Any, Contains, IfSome, IsTrue, is_some}
use Rattle.std.proofs.lemmas.Bool.{false≢true}
use Rattle.std.proofs.lemmas.List.Elements.{All-map}
use Rattle.elf_model.proofs.Listed.{All-unmap}
use Rattle.elf_model.specs.Link.LinkerValues.{end_of_pieces}
use Rattle.elf_model.specs.Image.MemoryImage.{Encloses, loads, thread_blocks}
use Rattle.elf_model.specs.Image.RightLink.{HoldsInitial}
use Rattle.elf_model.specs.Link.ThreadStorage.{is_thread_data, thread_headers}
use Rattle.elf_model.specs.declared.link_map.GotLine.{GotLine}
use Rattle.elf_model.specs.declared.records.ProgramHeader.{ProgramHeader}
use Rattle.checker.specs.ThreadBlock.{AreOthersClear, BeginsAfter, IsBlockRight}
use Rattle.check_link.specs.Views.{placed_view, placed_views}
use Rattle.check_link.specs.declared.things.Placed as code
use Rattle.check_places.proofs.SegmentsApart.{none_found}

-- a nonempty range lies in a segment where one is found that encloses it
pub enclosed_if :
    (hs : List ProgramHeader) (at size : ℕ) (o : Option ProgramHeader) (b : Bool) → b ≡ is_some o → (size ≡ 0 → ⊥) →
    IfSome o (λ h. Contains hs h × Encloses h at size) → All (λ g. Encloses g at size → o ≡ Some g) hs →
    IsTrue b ↔ (0 < size → Any (λ h. Encloses h at size) hs)
enclosed_if hs at size None b is some found only = (
  λ e. absurd (false≢true (sym is ∙ e)),
  λ h. absurd (none_found hs at size only (λ g p. p) (h (omega (arith, some)))),
)
enclosed_if hs at size (Some g) b is some found only = (
  λ e s. (found.0.0, g, found.0.1, found.0.2, found.1),
  λ h. is,
)

-- The eighth clause in its parts, with the headers and the end of the initial bytes as the code has them.
module _ (base : ℕ) (got : Option GotLine) (placed : List code.Placed) (image : List ℕ) (end : ℕ) (hs : List ProgramHeader) (are : hs ≡ thread_blocks image) (is : end ≡ end_of_pieces is_thread_data (placed_views placed)) where
  abbrev pub AreClear : Type 0
  AreClear = All (λ h. AreOthersClear h.p_vaddr end got (placed_views placed)) hs

  abbrev pub BeginAfter : Type 0
  BeginAfter = All (λ q. BeginsAfter end (placed_view q)) placed

  pub block_right :
      hs ≡ thread_headers base (placed_views placed) → BeginAfter → AreClear → All (HoldsInitial (loads image)) hs →
      IsBlockRight base got (placed_views placed) image
  block_right headers before clear held = record {
    headers = sym are ∙ headers;
    before =
        subst (λ (n : ℕ). All (BeginsAfter n) (placed_views placed)) is (All-map (BeginsAfter end) placed_view placed before);
    clear =
        subst (λ (n : ℕ). All (λ h. AreOthersClear h.p_vaddr n got (placed_views placed)) (thread_blocks image)) is
        (subst (λ (gs : List ProgramHeader). All (λ h. AreOthersClear h.p_vaddr end got (placed_views placed)) gs) are clear);
    held = subst (All (HoldsInitial (loads image))) are held;
  }

  pub before_of : IsBlockRight base got (placed_views placed) image → BeginAfter
  before_of right =
      All-unmap (BeginsAfter end) placed_view placed (subst (λ (n : ℕ). All (BeginsAfter n) (placed_views placed)) (sym is) right.before)

  pub clear_of : IsBlockRight base got (placed_views placed) image → AreClear
  clear_of right =
      subst (λ (gs : List ProgramHeader). All (λ h. AreOthersClear h.p_vaddr end got (placed_views placed)) gs) (sym are)
      (subst (λ (n : ℕ). All (λ h. AreOthersClear h.p_vaddr n got (placed_views placed)) (thread_blocks image)) (sym is)
      right.clear)

  pub held_of : IsBlockRight base got (placed_views placed) image → All (HoldsInitial (loads image)) hs
  held_of right = subst (All (HoldsInitial (loads image))) (sym are) right.held
