use Rattle.std.proofs.Common.{◌≡◌, ℕ, ◌%◌, ◌^◌, List, option_map, unwrap_or, ap, sym, ◌∙◌, arith}
use Rattle.std.proofs.lemmas.Grind.{common_steps}
use Rattle.std.specs.Option.{option_map_or}
use Rattle.elf_model.specs.Link.Loading.{LoadedObject}
use Rattle.elf_model.specs.Link.Meaning.{meaning_size, meaning_value}
use Rattle.elf_model.specs.Link.Placement.{Where}
use Rattle.elf_model.specs.Link.Relocation.{Relocation, definition_of, relocation_of, symbol_at}
use Rattle.elf_model.specs.Link.RelocationValues.{used_value}
use Rattle.elf_model.specs.Link.Slots.{Request, request_of}
use Rattle.elf_model.specs.Link.ThreadStorage.{block_in}
use Rattle.got_tls.specs.Asking.{offset_of}
use Rattle.reloc_values.specs.ThreadOffsets.{thread_pointer}
use Rattle.got_tls.proofs.SlotPlaces.{own_offset}
use Rattle.relocate.specs.SymbolTables.{all_valued, valued_object, where_of}
use Rattle.relocate.proofs.values.terms.Goals as goal

pub returns : goal.returns
returns c =
    let v = c.args.valued.now in
    let L : List LoadedObject = all_valued v in
    let b = v.placement.now in
    let w : Where = where_of v in
    let r : Relocation = relocation_of v.number (valued_object v) c.args.target c.args.entry.now in
    let value : c.symbol_value-symbol.result.value ≡ used_value L w r % 2 ^ 64 =
    c.symbol_value-symbol.ensures.value
    ∙ ap (λ (j : ℕ). unwrap_or (option_map (meaning_value w) (definition_of L (symbol_at v.number (valued_object v) j))) 0 % 2 ^ 64) c.symbol.ensures in
    record {
      symbol = value;
      addend = grind (arith, common_steps);
      place = grind (arith, common_steps);
      slot =
          c.slot_offset.ensures
          ∙ ap (λ (qs : List Request). option_map_or (offset_of qs) (request_of r) 0 % 2 ^ 64) c.requires.known.slots
          ∙ ap (λ (n : ℕ). n % 2 ^ 64) (sym (own_offset b.objects b.base r));
      got = c.requires.known.got;
      size =
          c.symbol_value-symbol.ensures.size
          ∙ ap (λ (j : ℕ). unwrap_or (option_map meaning_size (definition_of L (symbol_at v.number (valued_object v) j))) 0 % 2 ^ 64) c.symbol.ensures;
      thread = c.offset_from.ensures (used_value L w r) (thread_pointer (block_in w)) value c.requires.known.pointer;
    }
