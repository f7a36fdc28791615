-- Lines: the readers of fields and of whole lines take just what the lines spell.
use Rattle.std.proofs.Common.{◌≡◌, ℕ, ◌^◌, ◌<◌, ◌⊎◌, inl, inr, List, ◌++◌, refl, ap, codes, arith}
use Rattle.std.proofs.lemmas.Fmt.{decimal_digit}
use Rattle.elf_model.specs.declared.link_map.Definition.{Definition}
use Rattle.elf_model.specs.declared.link_map.Definition.TheVariants as definition
use Rattle.elf_model.specs.declared.link_map.DropLine.{DropLine}
use Rattle.elf_model.specs.declared.link_map.GotLine.{GotLine}
use Rattle.elf_model.specs.declared.link_map.SlotKind.{SlotKind}
use Rattle.elf_model.specs.declared.link_map.SlotKind.TheVariants as kind
use Rattle.elf_model.specs.declared.link_map.SymtabLine.{SymtabLine}
use Rattle.elf_model.specs.Image.MapRecord.{ObjectRow, PlaceRow, CommonRow, SlotRow, SymbolRow, TargetRow, OfName, OfLocal}
use Rattle.elf_model.specs.Image.MapText.{address, number, last_number, name, kind_text, target_text, definition_text, object_text, drop_text, place_text, common_text, got_text, slot_text, symbol_text, symtab_text, version_text, Line, Version, Object, Drop, Place, Common, Got, Slot, Symbol, Symtab, End, line_text, FitsObject, FitsDrop, FitsPlace, FitsCommon, FitsGot, FitsTarget, FitsSlot, FitsDefinition, FitsSymbol, FitsSymtab}
use Rattle.linkmap.specs.Reading.{tag, both, object_at, drop_at, place_at, common_at, got_at, kind_at, target_at, slot_at, definition_at, symbol_at, symtab_at, version_at, number_at, last_number_at, line_at}
use Rattle.linkmap.proofs.HexLaws.{address-IsParser}
use Rattle.linkmap.proofs.NameLaws.{name-IsParser}
use Rattle.linkmap.proofs.NumberLaws.{number-IsParser, last_number-IsParser}
use Rattle.linkmap.proofs.Parsers.{IsParser, Took, pair_of, seen-IsParser, arm, arm_word, arm_none}

object-IsParser : IsParser (λ o. number o.object ++ (number o.item ++ (number o.offset ++ name o.path))) FitsObject object_at
unfolding object_at
object-IsParser = seen-IsParser _ (λ (o : ObjectRow). (o.object, (o.item, (o.offset, o.path)))) _ _ FitsObject _ (pair_of number-IsParser (pair_of number-IsParser (pair_of number-IsParser name-IsParser)))
    (λ x. refl) (λ o. refl)
    (λ x f. record { object = f.0; item = f.1.0; offset = f.1.1.0; path = f.1.1.1 })
    (λ o f. (f.object, (f.item, (f.offset, f.path))))

drop-IsParser : IsParser (λ d. number d.object ++ last_number d.section) FitsDrop drop_at
unfolding drop_at
drop-IsParser = seen-IsParser _ (λ (d : DropLine). (d.object, d.section)) _ _ FitsDrop _ (pair_of number-IsParser last_number-IsParser)
    (λ x. refl) (λ d. refl)
    (λ x f. record { object = f.0; section = f.1 })
    (λ d f. (f.object, f.section))

place-IsParser : IsParser (λ p. address p.address ++ (number p.size ++ (number p.object ++ (number p.section ++ name p.name)))) FitsPlace place_at
unfolding place_at
place-IsParser = seen-IsParser _ (λ (p : PlaceRow). (p.address, (p.size, (p.object, (p.section, p.name))))) _ _ FitsPlace _ (pair_of address-IsParser (pair_of number-IsParser (pair_of number-IsParser (pair_of number-IsParser name-IsParser))))
    (λ x. refl) (λ p. refl)
    (λ x f. record { address = f.0; size = f.1.0; object = f.1.1.0; section = f.1.1.1.0; name = f.1.1.1.1 })
    (λ p f. (f.address, (f.size, (f.object, (f.section, f.name)))))

common-IsParser : IsParser (λ c. address c.address ++ (number c.size ++ (number c.align ++ name c.name))) FitsCommon common_at
unfolding common_at
common-IsParser = seen-IsParser _ (λ (c : CommonRow). (c.address, (c.size, (c.align, c.name)))) _ _ FitsCommon _ (pair_of address-IsParser (pair_of number-IsParser (pair_of number-IsParser name-IsParser)))
    (λ x. refl) (λ c. refl)
    (λ x f. record { address = f.0; size = f.1.0; align = f.1.1.0; name = f.1.1.1 })
    (λ c f. (f.address, (f.size, (f.align, f.name))))

got-IsParser : IsParser (λ g. address g.address ++ last_number g.size) FitsGot got_at
unfolding got_at
got-IsParser = seen-IsParser _ (λ (g : GotLine). (g.address, g.size)) _ _ FitsGot _ (pair_of address-IsParser last_number-IsParser)
    (λ x. refl) (λ g. refl)
    (λ x f. record { address = f.0; size = f.1 })
    (λ g f. (f.address, f.size))

-- a slot: what it holds, and its target
kind_again : (k : SlotKind) (rest : List ℕ) → Took (kind_at (kind_text k ++ rest)) k rest
unfolding kind_at tag
kind_again kind.Value rest = refl
kind_again kind.Thread rest = refl

kind-IsParser : IsParser kind_text (λ _. Unit {0}) kind_at
unfolding kind_at
kind-IsParser = record {
  takes = λ bytes k rest h.
      arm_word kind_text (λ _. Unit {0}) bytes k rest (codes "value ") kind.Value refl tt _
      (arm_word kind_text (λ _. Unit {0}) bytes k rest (codes "thread ") kind.Thread refl tt _
      (arm_none kind_text (λ _. Unit {0}) bytes k rest)) h;
  again = λ k rest f. kind_again k rest;
}

local-IsParser : IsParser (λ (p : ℕ × ℕ). number p.0 ++ last_number p.1) (λ p. (p.0 < 2 ^ 64) × (p.1 < 2 ^ 64)) (both number_at last_number_at)
local-IsParser = pair_of number-IsParser last_number-IsParser

target_again : (t : TargetRow) (rest : List ℕ) → FitsTarget t → Took (target_at (target_text t ++ rest)) t rest
unfolding target_at tag
target_again (OfName bytes) rest f = rw (name-IsParser.again bytes rest f) refl
target_again (OfLocal object symbol) rest f = rw (local-IsParser.again (object, symbol) rest f) refl

target-IsParser : IsParser target_text FitsTarget target_at
unfolding target_at
target-IsParser = record {
  takes = λ bytes t rest h.
      arm target_text FitsTarget bytes t rest (codes "name ") OfName name-IsParser (λ x. refl) (λ x f. f) _
      (arm target_text FitsTarget bytes t rest (codes "local ") (λ (p : ℕ × ℕ). OfLocal p.0 p.1) local-IsParser (λ x. refl) (λ x f. f) _
      (arm_none target_text FitsTarget bytes t rest)) h;
  again = target_again;
}

slot-IsParser : IsParser (λ s. address s.address ++ (kind_text s.kind ++ target_text s.target)) FitsSlot slot_at
unfolding slot_at
slot-IsParser = seen-IsParser _ (λ (s : SlotRow). (s.address, (s.kind, s.target))) _ _ FitsSlot _ (pair_of address-IsParser (pair_of kind-IsParser target-IsParser))
    (λ x. refl) (λ s. refl)
    (λ x f. record { address = f.0; target = f.1.1 })
    (λ s f. (f.address, (tt, f.target)))

-- a symbol: who defines it
symbol_of-IsParser : IsParser (λ (p : ℕ × ℕ). number p.0 ++ number p.1) (λ p. (p.0 < 2 ^ 64) × (p.1 < 2 ^ 64)) (both number_at number_at)
symbol_of-IsParser = pair_of number-IsParser number-IsParser

definition_again : (d : Definition) (rest : List ℕ) → FitsDefinition d → Took (definition_at (definition_text d ++ rest)) d rest
unfolding definition_at tag
definition_again (definition.Strong object symbol) rest f = rw (symbol_of-IsParser.again (object, symbol) rest f) refl
definition_again (definition.Weak object symbol) rest f = rw (symbol_of-IsParser.again (object, symbol) rest f) refl
definition_again definition.Common rest f = refl
definition_again definition.Linker rest f = refl

definition-IsParser : IsParser definition_text FitsDefinition definition_at
unfolding definition_at
definition-IsParser = record {
  takes = λ bytes d rest h.
      arm definition_text FitsDefinition bytes d rest (codes "strong ") (λ (p : ℕ × ℕ). definition.Strong p.0 p.1) symbol_of-IsParser (λ x. refl) (λ x f. f) _
      (arm definition_text FitsDefinition bytes d rest (codes "weak ") (λ (p : ℕ × ℕ). definition.Weak p.0 p.1) symbol_of-IsParser (λ x. refl) (λ x f. f) _
      (arm_word definition_text FitsDefinition bytes d rest (codes "common ") definition.Common refl tt _
      (arm_word definition_text FitsDefinition bytes d rest (codes "linker ") definition.Linker refl tt _
      (arm_none definition_text FitsDefinition bytes d rest)))) h;
  again = definition_again;
}

symbol-IsParser : IsParser (λ s. address s.address ++ (definition_text s.definition ++ name s.name)) FitsSymbol symbol_at
unfolding symbol_at
symbol-IsParser = seen-IsParser _ (λ (s : SymbolRow). (s.address, (s.definition, s.name))) _ _ FitsSymbol _ (pair_of address-IsParser (pair_of definition-IsParser name-IsParser))
    (λ x. refl) (λ s. refl)
    (λ x f. record { address = f.0; definition = f.1.0; name = f.1.1 })
    (λ s f. (f.address, (f.definition, f.name)))

symtab-IsParser : IsParser (λ t. number t.offset ++ last_number t.count) FitsSymtab symtab_at
unfolding symtab_at
symtab-IsParser = seen-IsParser _ (λ (t : SymtabLine). (t.offset, t.count)) _ _ FitsSymtab _ (pair_of number-IsParser last_number-IsParser)
    (λ x. refl) (λ t. refl)
    (λ x f. record { offset = f.0; count = f.1 })
    (λ t f. (f.offset, f.count))

-- the first line
abbrev pub IsVersion : ℕ → Type 0
IsVersion n = (n ≡ 1) ⊎ (n ≡ 2)

version_one : version_text 1 ≡ codes "ldmap 1\n"
unfolding version_text last_number
version_one = ap (λ w. codes "ldmap " ++ (w ++ codes "\n")) (decimal_digit 1 (omega arith))

version_two : version_text 2 ≡ codes "ldmap 2\n"
unfolding version_text last_number
version_two = ap (λ w. codes "ldmap " ++ (w ++ codes "\n")) (decimal_digit 2 (omega arith))

version_again : (n : ℕ) (rest : List ℕ) → IsVersion n → Took (version_at (version_text n ++ rest)) n rest
unfolding version_at tag
version_again n rest (inl e) = rw (e, version_one) refl
version_again n rest (inr e) = rw (e, version_two) refl

pub version-IsParser : IsParser version_text IsVersion version_at
unfolding version_at
version-IsParser = record {
  takes = λ bytes n rest h.
      arm_word version_text IsVersion bytes n rest (codes "ldmap 1\n") 1 version_one (inl refl) _
      (arm_word version_text IsVersion bytes n rest (codes "ldmap 2\n") 2 version_two (inr refl) _
      (arm_none version_text IsVersion bytes n rest)) h;
  again = version_again;
}

-- the lines behind the first
abbrev pub FitsLine : Line → Type 0
FitsLine (Version n) = ⊥
FitsLine (Object o) = FitsObject o
FitsLine (Drop d) = FitsDrop d
FitsLine (Place p) = FitsPlace p
FitsLine (Common c) = FitsCommon c
FitsLine (Got g) = FitsGot g
FitsLine (Slot s) = FitsSlot s
FitsLine (Symbol s) = FitsSymbol s
FitsLine (Symtab t) = FitsSymtab t
FitsLine End = Unit {0}

line_takes : (bytes : List ℕ) (l : Line) (rest : List ℕ) → Took (line_at bytes) l rest → (bytes ≡ line_text l ++ rest) × FitsLine l
unfolding line_at object_text drop_text place_text common_text got_text slot_text symbol_text symtab_text
line_takes bytes l rest h =
    arm line_text FitsLine bytes l rest (codes "object ") Object object-IsParser (λ x. refl) (λ x f. f) _
    (arm line_text FitsLine bytes l rest (codes "drop ") Drop drop-IsParser (λ x. refl) (λ x f. f) _
    (arm line_text FitsLine bytes l rest (codes "place ") Place place-IsParser (λ x. refl) (λ x f. f) _
    (arm line_text FitsLine bytes l rest (codes "common ") Common common-IsParser (λ x. refl) (λ x f. f) _
    (arm line_text FitsLine bytes l rest (codes "got ") Got got-IsParser (λ x. refl) (λ x f. f) _
    (arm line_text FitsLine bytes l rest (codes "slot ") Slot slot-IsParser (λ x. refl) (λ x f. f) _
    (arm line_text FitsLine bytes l rest (codes "symbol ") Symbol symbol-IsParser (λ x. refl) (λ x f. f) _
    (arm line_text FitsLine bytes l rest (codes "symtab ") Symtab symtab-IsParser (λ x. refl) (λ x f. f) _
    (arm_word line_text FitsLine bytes l rest (codes "end\n") End refl tt _
    (arm_none line_text FitsLine bytes l rest))))))))) h

line_again : (l : Line) (rest : List ℕ) → FitsLine l → Took (line_at (line_text l ++ rest)) l rest
unfolding line_at tag object_text drop_text place_text common_text got_text slot_text symbol_text symtab_text
line_again (Version n) rest f = absurd f
line_again (Object o) rest f = rw (object-IsParser.again o rest f) refl
line_again (Drop d) rest f = rw (drop-IsParser.again d rest f) refl
line_again (Place p) rest f = rw (place-IsParser.again p rest f) refl
line_again (Common c) rest f = rw (common-IsParser.again c rest f) refl
line_again (Got g) rest f = rw (got-IsParser.again g rest f) refl
line_again (Slot s) rest f = rw (slot-IsParser.again s rest f) refl
line_again (Symbol s) rest f = rw (symbol-IsParser.again s rest f) refl
line_again (Symtab t) rest f = rw (symtab-IsParser.again t rest f) refl
line_again End rest f = refl

pub line-IsParser : IsParser line_text FitsLine line_at
line-IsParser = record { takes = line_takes; again = line_again }
