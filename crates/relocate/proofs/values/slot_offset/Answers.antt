use Rattle.std.proofs.Common.{◌≡◌, ℕ, ◌%◌, ◌^◌, Option, Some, ap, option_map, sym, ◌∙◌}
use Rattle.std.specs.Option.{option_and_then, option_map_or}
use Rattle.elf_model.specs.Inputs.ObjectFile.{rela_symbol}
use Rattle.elf_model.specs.Link.Relocation.{Kind, Relocation, relocation_of}
use Rattle.elf_model.specs.Link.Slots.{Request, request_of, slot_kind_of, target_of}
use Rattle.elf_model.specs.declared.link_map.SlotKind.{SlotKind}
use Rattle.got_tls.specs.Asking.{offset_of, request_for}
use Rattle.relocate.specs.SymbolTables.{valued_object}
use Rattle.relocate.proofs.values.slot_offset.Goals as goal

pub returns-in-Some : goal.returns-in-Some
returns-in-Some c =
    let v = c.args.valued.now in
    let o = valued_object v in
    let r : Relocation = relocation_of v.number o c.args.target c.args.entry.now in
    let of_kind : SlotKind → Request = λ kind. record { kind = kind; target = target_of r.symbol } in
    let asked : request_of r ≡ Some (request_for c.in-Some.kind v.number o (rela_symbol c.args.entry.now)) =
    ap (λ (k : Option Kind). option_map of_kind (option_and_then (λ x. slot_kind_of x.formula) k)) c.requires.kind
    ∙ ap (option_map of_kind) (sym c.slot_kind.ensures ∙ c.in-Some.is) in
    c.symbol_offset.ensures
    ∙ (ap (λ (j : ℕ). offset_of v.slots.now.slots (request_for c.in-Some.kind v.number o j) % 2 ^ 64) c.symbol.ensures
    ∙ ap (λ (q : Option Request). option_map_or (offset_of v.slots.now.slots) q 0 % 2 ^ 64) (sym asked))
