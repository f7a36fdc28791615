use Rattle.std.proofs.Common.{◌≡◌, ◌+◌, ◌++◌, List, ap, drop, get_or, map, subst, sym, ◌∙◌}
use Rattle.std.specs.Prelude.{All}
use Rattle.elf_model.proofs.Listed.{All-parts}
use Rattle.elf_model.proofs.Mapped.{append_mapped}
use Rattle.elf_model.specs.Link.Relocation.{IsLawfulRelocation, relocations_from}
use Rattle.search.proofs.KeptWalks.{no_rela, relas_more}
use Rattle.search.specs.KeptLists.{relocations_by, relocations_of_relas}
use Rattle.relocate.specs.Fields.{field_of}
use Rattle.relocate.specs.SymbolTables.{all_of, referring}
use Rattle.relocate.specs.declared.fields.Field.{Field}
use Rattle.relocate.proofs.field_list.list_fields.Goals as goal

pub loop-rela-init : goal.loop-rela-init
loop-rela-init c =
    let n = c.args.referrer.now.number in
    let o = referring c.args.referrer.now in
    let ks = c.kept_relas-relas.result.now in
    let same : relocations_of_relas n o ks ≡ relocations_from n o = sym (c.kept_relas-relas.ensures.relocations n) in
    record {
      fields = ap (λ (xs : List Field). xs ++ map field_of (relocations_of_relas n o ks)) c.clear.ensures.items ∙ ap (map field_of) same;
      lawful = subst (All (IsLawfulRelocation (all_of c.args.referrer.now))) (sym same) c.requires;
    }

pub add_section-requires-clause-lawful : goal.add_section-requires-clause-lawful
add_section-requires-clause-lawful c =
    let L = all_of c.args.referrer.now in
    let n = c.args.referrer.now.number in
    let o = referring c.args.referrer.now in
    let ks = c.kept_relas-relas.result.now in
    let i = c.loop-rela.rela-index in
    (All-parts (IsLawfulRelocation L) (relocations_by n o (get_or ks i no_rela)) (relocations_of_relas n o (drop (i + 1) ks))
    (subst (All (IsLawfulRelocation L)) (relas_more n o ks i no_rela c.loop-rela-test.true) c.loop-rela.invariant.lawful)).0

pub loop-rela-preserved : goal.loop-rela-preserved
loop-rela-preserved c =
    let L = all_of c.args.referrer.now in
    let n = c.args.referrer.now.number in
    let o = referring c.args.referrer.now in
    let ks = c.kept_relas-relas.result.now in
    let i = c.loop-rela.rela-index in
    let here = relocations_by n o (get_or ks i no_rela) in
    let left = relocations_of_relas n o (drop i ks) in
    let more = relocations_of_relas n o (drop (i + 1) ks) in
    let parts = relas_more n o ks i no_rela c.loop-rela-test.true in
    record {
      fields =
          append_mapped field_of c.loop-rela.fields.items c.add_section.new.fields.items here left more _
          c.in_ok-add_section.ensures parts c.loop-rela.invariant.fields;
      lawful = (All-parts (IsLawfulRelocation L) here more (subst (All (IsLawfulRelocation L)) parts c.loop-rela.invariant.lawful)).1;
    }
