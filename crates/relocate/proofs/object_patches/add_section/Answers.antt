use Rattle.std.proofs.Common.{◌≡◌, ◌∷◌, ◌++◌, [], List, ap, map, refl, ◌∙◌}
use Rattle.std.proofs.lemmas.List.Elements.{All-head}
use Rattle.elf_model.specs.Link.Relocation.{Relocation, relocation_of}
use Rattle.elf_model.proofs.Mapped.{push_mapped}
use Rattle.search.proofs.KeptWalks.{entry_first}
use Rattle.search.specs.KeptLists.{relocations_by}
use Rattle.relocate.specs.declared.faults.RelocFault.TheVariants as error
use Rattle.relocate.proofs.Rows.{patch_is}
use Rattle.relocate.proofs.Fitted.{fit_all, fit_none, fit_part, fitting_fails, patchable_part, one_fails, one_fits}
use Rattle.relocate.specs.SymbolTables.{all_valued, valued_object, where_of}
use Rattle.relocate.specs.Values.{IsPatchable, patch_of}
use Rattle.relocate.proofs.object_patches.add_section.Goals as goal

pub loop-entry-init : goal.loop-entry-init
loop-entry-init c =
    let v = c.args.valued.now in
    let f = relocation_of v.number (valued_object v) c.args.rela.target in
    let told : map f c.into_iter-entry-iterator.result ≡ relocations_by v.number (valued_object v) c.args.rela =
    ap (map f) c.into_iter-entry-iterator.ensures.into_iter_gives ∙ c.kept_entries-entry-items.ensures v.number in
    record {
      patches = ap (λ (rs : List Relocation). c.args.patches.now.items ++ map (patch_of (all_valued v) (where_of v)) rs) told;
      leaves = fit_all (all_valued v) (where_of v) _ _ told c.requires.patchable;
    }

pub fitting_value-requires-clause-known : goal.fitting_value-requires-clause-known
fitting_value-requires-clause-known c =
    let v = c.args.valued.now in
    let parts = entry_first v.number (valued_object v) c.args.rela.target c.args.rela.target c.in-Some.entry _ _ refl c.in-Some.ensures.steps in
    (All-head IsPatchable _ [] (patchable_part _ _ _ _ (_ ∷ []) _ parts c.loop-entry.invariant.leaves)).known

pub first_byte-place-requires : goal.first_byte-place-requires
first_byte-place-requires c =
    let v = c.args.valued.now in
    let parts = entry_first v.number (valued_object v) c.args.rela.target c.args.rela.target c.in-Some.entry _ _ refl c.in-Some.ensures.steps in
    (All-head IsPatchable _ [] (patchable_part _ _ _ _ (_ ∷ []) _ parts c.loop-entry.invariant.leaves)).short

pub returns-in_default-clause-fault : goal.returns-in_default-clause-fault
returns-in_default-clause-fault c =
    let v = c.args.valued.now in
    let parts = entry_first v.number (valued_object v) c.args.rela.target c.args.rela.target c.in-Some.entry _ _ refl c.in-Some.ensures.steps in
    fitting_fails _ _ _ _ (_ ∷ []) _ error.Overflow parts c.loop-entry.invariant.leaves (one_fails _ _ _ c.in_default.ensures)

pub loop-entry-preserved : goal.loop-entry-preserved
loop-entry-preserved c =
    let v = c.args.valued.now in
    let f = relocation_of v.number (valued_object v) c.args.rela.target in
    let parts = entry_first v.number (valued_object v) c.args.rela.target c.args.rela.target c.in-Some.entry _ _ refl c.in-Some.ensures.steps in
    record {
      patches =
          push_mapped (patch_of (all_valued v) (where_of v)) c.loop-entry.patches.items c.push.new.self.items _ _ _ _ _
          c.in_ok-push.ensures.items (patch_is (all_valued v) (where_of v) (f c.in-Some.entry) c.in-Some-fitting_value.fitting c.first_byte-place.result c.in-Some-fitting_value.ensures.1 c.first_byte-place.ensures)
          parts c.loop-entry.invariant.patches;
      leaves = fit_part _ _ _ _ (_ ∷ []) _ parts (one_fits _ _ _ c.in-Some-fitting_value.ensures.0) c.loop-entry.invariant.leaves;
    }

pub returns-clause-fit : goal.returns-clause-fit
returns-clause-fit c =
    let v = c.args.valued.now in
    fit_none (all_valued v) (where_of v) _ _ (ap (map (relocation_of v.number (valued_object v) c.args.rela.target)) c.in-None.ensures.steps.0) c.loop-entry.invariant.leaves
