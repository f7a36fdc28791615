-- Whether the common symbols of an object are sound, as their entries tell.
use Rattle.std.proofs.Common.{ℕ, ◌+◌, List, [], ◌∷◌}
use Rattle.std.specs.Prelude.{◌↔◌, All}
use Rattle.std.proofs.lemmas.List.Elements.{All-cons, All-head, All-nil, All-tail}
use Rattle.elf_model.specs.Link.Loading.{LoadedObject}
use Rattle.elf_model.specs.Link.Resolution.{IsSoundCommon, symbol_of, symbols_from}
use Rattle.elf_model.specs.declared.records.Symbol.{Symbol}
use Rattle.check_link.specs.Soundness.{IsSoundEntry}

pub entries_sound :
    (k : ℕ) (o : LoadedObject) (j : ℕ) (es : List Symbol) → All IsSoundEntry es ↔ All IsSoundCommon (symbols_from k o j es)
entries_sound k o j [] = (λ none. All-nil IsSoundCommon, λ none. All-nil IsSoundEntry)
entries_sound k o j (e ∷ es) =
    let rest = entries_sound k o (j + 1) es in
    let s = symbol_of k o j e in
    let ss = symbols_from k o (j + 1) es in (
      λ all.
          let h = All-head IsSoundEntry e es all in
          All-cons IsSoundCommon s ss (record { binding_ = h.binding_; type_ = h.type_; align = h.align }) (rest.0 (All-tail IsSoundEntry e es all)),
      λ all.
          let h = All-head IsSoundCommon s ss all in
          All-cons IsSoundEntry e es (record { binding_ = h.binding_; type_ = h.type_; align = h.align }) (rest.1 (All-tail IsSoundCommon s ss all)),
    )
