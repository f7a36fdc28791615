use Rattle.std.proofs.Common.{◌≡◌, ◌++◌, List, ap, map, subst, sym, ◌∙◌}
use Rattle.std.specs.Prelude.{All}
use Rattle.std.proofs.lemmas.List.Elements.{All-head, All-tail}
use Rattle.elf_model.proofs.Mapped.{push_mapped}
use Rattle.elf_model.specs.Link.Relocation.{IsLawfulRelocation, Relocation, relocation_of}
use Rattle.search.proofs.KeptWalks.{entry_first}
use Rattle.search.specs.KeptLists.{relocations_by}
use Rattle.relocate.specs.Fields.{field_of}
use Rattle.relocate.specs.SymbolTables.{all_of, referring}
use Rattle.relocate.specs.declared.fields.Field.{Field}
use Rattle.relocate.proofs.field_list.add_section.Goals as goal

pub loop-entry-init : goal.loop-entry-init
loop-entry-init c =
    let r = c.args.referrer.now in
    let f = relocation_of r.number (referring r) c.args.rela.target in
    let told : map f c.into_iter-entry-iterator.result ≡ relocations_by r.number (referring r) c.args.rela =
    ap (map f) c.into_iter-entry-iterator.ensures.into_iter_gives ∙ c.kept_entries-entry-items.ensures r.number in
    record {
      fields =
          ap (λ (xs : List Field). xs ++ map field_of (map f c.into_iter-entry-iterator.result)) c.in_ok-reserve.ensures.items
          ∙ ap (λ (rs : List Relocation). c.args.fields.now.items ++ map field_of rs) told;
      lawful = subst (All (IsLawfulRelocation (all_of r))) (sym told) c.requires.lawful;
    }

pub field_in-requires-clause-lawful : goal.field_in-requires-clause-lawful
field_in-requires-clause-lawful c =
    let r = c.args.referrer.now in
    let parts = entry_first r.number (referring r) c.args.rela.target c.relocated-target.result.number c.in-Some.entry _ _ c.relocated-target.ensures.number c.in-Some.ensures.steps in
    All-head (IsLawfulRelocation (all_of r)) _ _ (subst (All (IsLawfulRelocation (all_of r))) parts c.loop-entry.invariant.lawful)

pub loop-entry-preserved : goal.loop-entry-preserved
loop-entry-preserved c =
    let r = c.args.referrer.now in
    let parts = entry_first r.number (referring r) c.args.rela.target c.relocated-target.result.number c.in-Some.entry _ _ c.relocated-target.ensures.number c.in-Some.ensures.steps in
    record {
      fields =
          push_mapped field_of c.loop-entry.fields.items c.push.new.self.items c.field_in.result _ _ _ _ c.in_ok-push.ensures.items
          c.field_in.ensures parts c.loop-entry.invariant.fields;
      lawful = All-tail (IsLawfulRelocation (all_of r)) _ _ (subst (All (IsLawfulRelocation (all_of r))) parts c.loop-entry.invariant.lawful);
    }
