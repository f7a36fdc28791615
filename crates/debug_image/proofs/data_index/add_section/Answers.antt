use Rattle.std.proofs.Common.{◌≡◌, ◌∙◌, ℕ, ap, arith, rules, sym}
use Rattle.std.specs.BTreeMap.{get}
use Rattle.std.specs.Ordering.{nat_cmp}
use Rattle.std.proofs.lemmas.Grind.{common_steps}
use Rattle.search.specs.Views.{loaded_view}
use Rattle.elf_model.specs.declared.records.SectionHeader.{SectionHeader}
use Rattle.debug_image.specs.declared.data_index.DataSection.{DataSection}
use Rattle.debug_image.proofs.IndexSteps.{added_rela, dropped_rela, other_rela}
use Rattle.debug_image.proofs.data_index.add_section.Goals as goal

pub returns-then-is_dropped-clause-relas : goal.returns-then-is_dropped-clause-relas
returns-then-is_dropped-clause-relas c = dropped_rela (loaded_view c.args.loaded.now) c.args.i c.args.index.now (sym c.if-is_dropped.ensures)

pub returns-in_ok-push-clause-relas : goal.returns-in_ok-push-clause-relas
returns-in_ok-push-clause-relas c =
    let s = c.in-Some.section.now in
    let new : DataSection = record { at = s.at; relas = c.push.new.self } in
    added_rela c.args.index.now (c.get_mut.follows.lender new) c.section.result.sh_info s new (sym c.in-Some.ensures.value) (λ n. grind (arith, common_steps))
    (loaded_view c.args.loaded.now) c.args.i (sym (ap (λ (h : SectionHeader). h.sh_info) c.section.ensures)) (sym c.if-is_dropped.ensures) c.in_ok-push.ensures.items

pub returns-in_default-clause-relas : goal.returns-in_default-clause-relas
returns-in_default-clause-relas c = λ are.
    let same : (n : ℕ) → get nat_cmp c.get_mut.follows.lender-at-none n ≡ get nat_cmp c.args.index.now n = λ n. search rules in
    other_rela (loaded_view c.args.loaded.now) c.args.i c.get_mut.follows.lender-at-none
    (same _ ∙ (ap (λ (h : SectionHeader). get nat_cmp c.args.index.now h.sh_info) (sym c.section.ensures) ∙ sym c.in_default.ensures.value))
    (λ n s there. are n s (sym (same n) ∙ there))
