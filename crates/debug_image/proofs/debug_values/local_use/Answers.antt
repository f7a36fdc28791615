use Rattle.std.proofs.Common.{◌≡◌, ◌%◌, ◌^◌, ◌∙◌, Option, ap, arith, refl, sym}
use Rattle.std.specs.Prelude.{option_map, unwrap_or}
use Rattle.std.proofs.lemmas.Grind.{common_steps}
use Rattle.elf_model.specs.Link.Meaning.{Meaning, meaning_size}
use Rattle.elf_model.specs.Link.Relocation.{symbol_at}
use Rattle.elf_model.specs.Link.Resolution.{is_undefined}
use Rattle.elf_model.specs.declared.records.Symbol.{Symbol}
use Rattle.search.specs.Views.{loaded_view}
use Rattle.debug_image.specs.DebugLayouts.{data_in}
use Rattle.debug_image.specs.DebugValues.{definition_value}
use Rattle.debug_image.proofs.NamedUses.{local_none, local_some}
use Rattle.debug_image.proofs.debug_values.local_use.Goals as goal

pub returns-then-is_undefined : goal.returns-then-is_undefined
returns-then-is_undefined c =
    let h = c.args.here.now in
    let d = data_in c.args.layout.now in
    let s = symbol_at h.place.now.piece.object (loaded_view h.loaded.now) c.args.j in
    let is : c.symbol-entry.result ≡ s.entry = c.symbol-entry.ensures in
    let none = local_none d.objects s c.requires.local (sym (ap is_undefined is) ∙ (sym c.is_undefined.ensures ∙ c.if-is_undefined.true)) in
    record {
      value = ap (definition_value d) (sym none);
      size = ap (λ (m : Option Meaning). unwrap_or (option_map meaning_size m) 0 % 2 ^ 64) (sym none);
    }

pub returns : goal.returns
returns c =
    let h = c.args.here.now in
    let d = data_in c.args.layout.now in
    let s = symbol_at h.place.now.piece.object (loaded_view h.loaded.now) c.args.j in
    let is : c.symbol-entry.result ≡ s.entry = c.symbol-entry.ensures in
    let used = local_some d.objects s c.requires.local (sym (ap is_undefined is) ∙ (sym c.is_undefined.ensures ∙ c.if-is_undefined.false)) in
    let small : c.symbol-entry.result.st_size ≡ c.symbol-entry.result.st_size % 2 ^ 64 = grind (arith, common_steps) in
    record {
      value = c.symbol_value.ensures s refl (sym is) ∙ ap (definition_value d) (sym used);
      size =
          small
          ∙ (ap (λ (e : Symbol). e.st_size % 2 ^ 64) is
          ∙ sym (ap (λ (m : Option Meaning). unwrap_or (option_map meaning_size m) 0 % 2 ^ 64) used));
    }
