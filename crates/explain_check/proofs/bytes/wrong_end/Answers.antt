use Rattle.std.proofs.Common.{◌≡◌, ◌∙◌, ◌+◌, ◌≤◌, ◌⊎◌, ℕ, List, ap, subst, sym}
use Rattle.std.specs.Prelude.{All, Any}
use Rattle.std.proofs.lemmas.Bool.{false≢true}
use Rattle.elf_model.specs.Image.RightLink.{EndsRight}
use Rattle.elf_model.specs.declared.thing.Thing.{Thing}
use Rattle.std.specs.List.{slice_get}
use Rattle.elf_model.specs.Image.MemoryImage.{loads}
use Rattle.elf_model.specs.declared.records.ProgramHeader.{ProgramHeader}
use Rattle.explain_check.specs.Places.{IsAmong}
use Rattle.explain_check.proofs.bytes.wrong_end.Goals as goal

pub returns : goal.returns
returns c =
    let h = c.in_ok-header.header in
    let k = c.args.in_file in
    let end = c.last_end-end.result in
    let same = c.things-things.ensures in record {
      there = ap (λ (hs : List ProgramHeader). slice_get hs c.args.number) (sym (c.segments.ensures ∙ ap loads c.memory.ensures)) ∙ sym c.in_ok-header.ensures;
      last =
          subst (λ (ts : List Thing). (end ≡ h.p_vaddr) ⊎ Any (λ (t : Thing). IsAmong k h t × (t.at + t.size ≡ end)) ts) same
          (c.is_end.ensures.0 c.if-not-is_end.false);
      none_later = subst (All (λ (t : Thing). IsAmong k h t → t.at + t.size ≤ end)) same (c.has_none_later.ensures.0 c.if-not-has_none_later.false);
      differs = λ e. c.if-branch-end.false (c.in_ok-sum.ensures ∙ ap (λ (n : ℕ). h.p_vaddr + n) c.size_in.ensures ∙ e);
      wrong = λ right. false≢true (sym c.if-ends_right.false ∙ c.ends_right.ensures.1 (subst (λ (ts : List Thing). EndsRight ts h) (sym same) right));
    }
