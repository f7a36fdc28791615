-- The fourteenth clause, from the bytes after the last file part and the fields of the file header.
use Rattle.std.proofs.Common.{◌≡◌, ℕ, ◌-◌, ◌<◌, ◌^◌, Bool, not, List, ◌++◌, Option, None, length, drop, replicate, refl, sym, ◌∙◌, ap, subst}
use Rattle.std.specs.List.{flat_map}
use Rattle.std.specs.Prelude.{All, IfSome, IsTrue, is_some}
use Rattle.elf_model.proofs.Rests.{Left}
use Rattle.elf_model.specs.Image.MapRecord.{SymbolRow}
use Rattle.elf_model.specs.Image.MapText.{Ascends, SymbolBefore}
use Rattle.elf_model.specs.Link.Meaning.{Meaning}
use Rattle.elf_model.specs.Image.MemoryImage.{HasNoSections, file_end, loads}
use Rattle.elf_model.specs.Link.Placement.{Where, round_up}
use Rattle.elf_model.specs.Inputs.Records.{file_header, section_header_bytes}
use Rattle.elf_model.specs.Image.RightLink.{AreSymbolsListed, AreTablesRight, HoldsTables, Subject, objects_of, tabled_of, where_of}
use Rattle.elf_model.specs.Image.SymbolTable.{entry_count, headers_at, name_section, section_names, symbol_section, tabled, shstrtab_end, symtab_at, table_headers}
use Rattle.elf_model.specs.declared.link_map.SymtabLine.{SymtabLine}
use Rattle.elf_model.specs.declared.records.FileHeader.{FileHeader}
use Rattle.check_relocs.specs.Bindings.{Bound, bound_of}
use Rattle.check_tables.specs.Listed.{IsLine}
use Rattle.check_tables.specs.Tabled.{AreAt, AreTables, AreWanted, end_bytes}
use Rattle.check_tables.specs.declared.c14_tables.places.Places.{Places}
use Rattle.check_tables.proofs.TableEntries.{each_line}

-- what stands from the names of the sections on
abbrev pub end_of_tables : ℕ → List Meaning → List ℕ
end_of_tables e ms =
    section_names ++ (replicate (headers_at e ms - shstrtab_end e ms) 0 ++ flat_map section_header_bytes (table_headers e ms))

pub end_is : (e : ℕ) (ms : List Meaning) (p : Places) → AreAt e ms p → end_bytes p ≡ end_of_tables e ms
end_is e ms p at = λ i.
    end_bytes
    (record {
      symtab = at.symtab i;
      symtab_size = at.symtab_size i;
      strtab = at.strtab i;
      strtab_size = at.strtab_size i;
      shstrtab = at.shstrtab i;
      shstrtab_end = at.shstrtab_end i;
      headers = at.headers i;
    })

module _ (s : Subject) where
  abbrev pub end_at : ℕ
  end_at = file_end (loads s.image)

  -- bytes begin with the table, and others follow
  abbrev Told : List ℕ → ℕ → List ℕ → Type 0
  Told bytes count others = AreTables (where_of s) (tabled_of s) (symtab_at end_at - end_at) bytes count others

  abbrev last_bytes : List ℕ
  last_bytes = end_of_tables end_at (tabled_of s)

  told_wanted : (bytes : List ℕ) (count : ℕ) → AreWanted s bytes count → Told bytes count last_bytes
  told_wanted bytes count h = record { bytes_are = h.bytes_are; count_is = h.count_is; names_fit = h.names_fit }

  wanted_told : (bytes : List ℕ) (count : ℕ) → Told bytes count last_bytes → AreWanted s bytes count
  wanted_told bytes count h = record { bytes_are = h.bytes_are; count_is = h.count_is; names_fit = h.names_fit }

same_tables :
    (w v : Where) (ms ns : List Meaning) (k l : ℕ) (bytes : List ℕ) (count : ℕ) (others : List ℕ) → w ≡ v → ms ≡ ns → k ≡ l →
    AreTables w ms k bytes count others → AreTables v ns l bytes count others
same_tables w v ms ns k l bytes count others ew em ek a = record {
  bytes_are = a.bytes_are ∙ (λ i. replicate (ek i) 0 ++ (symbol_section (ew i) (em i) ++ (name_section (em i) ++ others)));
  count_is = a.count_is ∙ ap entry_count em;
  names_fit = subst (λ (ds : List Meaning). length (name_section ds) < 2 ^ 32) em a.names_fit;
}

-- what the table asks for, from what is left of the bytes once the tables are stripped
module _
    (s : Subject) (b : Bound) (rows : List SymbolRow) (bytes : List ℕ) (count end symtab : ℕ) (eb : b ≡ bound_of s) (er : rows ≡ s.map.symbols)
    (ee : end ≡ file_end (loads s.image)) (es : symtab ≡ round_up 8 end)
  where
    abbrev Found : List ℕ → Type 0
    Found others = AreTables b.places (tabled b.objects rows) (symtab - end) bytes count others

    definitions_are : tabled b.objects rows ≡ tabled_of s
    definitions_are = λ i. tabled ((eb i).objects) (er i)

    padding_is : symtab - end ≡ symtab_at (end_at s) - end_at s
    padding_is = λ i. (es ∙ ap (round_up 8) ee) i - ee i

    places_are : b.places ≡ where_of s
    places_are = ap (λ (x : Bound). x.places) eb

    told : (others : List ℕ) → Found others → Told s bytes count others
    told others = same_tables b.places (where_of s) _ _ _ _ bytes count others places_are definitions_are padding_is

    found : (others : List ℕ) → Told s bytes count others → Found others
    found others = same_tables (where_of s) b.places _ _ _ _ bytes count others (sym places_are) (sym definitions_are) (sym padding_is)

    pub no_tables : ((others : List ℕ) → Found others → ⊥) → AreWanted s bytes count → ⊥
    no_tables none h = none (last_bytes s) (found (last_bytes s) (told_wanted s bytes count h))

    module _
        (names : List ℕ) (at : ℕ) (p : Places) (left : (others : List ℕ) → Left (Found others) (names ≡ others))
        (offset : at ≡ length (name_section (tabled b.objects rows)))
        (places : (ms : List Meaning) → count ≡ entry_count ms → at ≡ length (name_section ms) → AreAt end ms p)
      where
        pub places_at : AreAt end (tabled_of s) p
        places_at =
            places (tabled_of s) (told names ((left names).1 refl)).count_is
            (offset ∙ ap (λ (ms : List Meaning). length (name_section ms)) definitions_are)

        last_are : end_bytes p ≡ last_bytes s
        last_are = end_is (end_at s) (tabled_of s) p (subst (λ (e : ℕ). AreAt e (tabled_of s) p) ee places_at)

        pub are_wanted : names ≡ end_bytes p → AreWanted s bytes count
        are_wanted last = wanted_told s bytes count (told (last_bytes s) ((left (last_bytes s)).1 (last ∙ last_are)))

        pub others_wanted : (names ≡ end_bytes p → ⊥) → AreWanted s bytes count → ⊥
        others_wanted other h = other ((left (last_bytes s)).0 (found (last_bytes s) (told_wanted s bytes count h)) ∙ sym last_are)

-- the clause on a map with the line, from what follows the last file part and the fields of the file header
module _
    (s : Subject) (line : SymtabLine) (image bytes : List ℕ) (end : ℕ) (header : FileHeader) (ei : image ≡ s.image)
    (ee : end ≡ file_end (loads s.image)) (back : bytes ≡ drop end image) (eh : header ≡ file_header s.image)
  where
    bytes_are : bytes ≡ drop (end_at s) s.image
    bytes_are = back ∙ (λ i. drop (ee i) (ei i))

    pub wanted_held : HoldsTables s line → AreWanted s bytes line.count
    wanted_held h = record { bytes_are = bytes_are ∙ h.bytes; count_is = h.count; names_fit = h.names_fit }

    pub tables_there :
        (t : Bool) (p : Places) → line.offset ≡ round_up 8 end → header.e_shnum ≡ 4 → header.e_shstrndx ≡ 3 → AreWanted s bytes line.count →
        AreAt end (tabled_of s) p → Left (IsTrue t) (header.e_shoff ≡ p.headers) → Left (IsTrue t) (HoldsTables s line)
    tables_there t p offset count strings wanted at same =
        let there : p.headers ≡ headers_at (end_at s) (tabled_of s) = at.headers ∙ ap (λ (e : ℕ). headers_at e (tabled_of s)) ee in (
          λ yes. record {
            offset = offset ∙ ap (round_up 8) ee;
            count = wanted.count_is;
            names_fit = wanted.names_fit;
            bytes = sym bytes_are ∙ wanted.bytes_are;
            headers_offset = sym (ap (λ (x : FileHeader). x.e_shoff) eh) ∙ (same.0 yes ∙ there);
            headers_count = sym (ap (λ (x : FileHeader). x.e_shnum) eh) ∙ count;
            names_section = sym (ap (λ (x : FileHeader). x.e_shstrndx) eh) ∙ strings;
          },
          λ h. same.1 (ap (λ (x : FileHeader). x.e_shoff) eh ∙ (h.headers_offset ∙ sym there)),
        )

-- the clause on a map without the line
pub none_right :
    (s : Subject) (header : FileHeader) (t : Bool) → s.map.symtab ≡ None → (s.map.version ≡ 2 → is_some s.map.symtab ≡ not s.plan.strip) →
    header ≡ file_header s.image → Left (IsTrue t) (HasNoSections header) → Left (IsTrue t) (AreTablesRight s)
none_right s header t none asked eh same = (
  λ yes. record {
    asked = asked;
    held = subst (λ (o : Option SymtabLine). IfSome o (HoldsTables s)) (sym none) tt;
    none = λ _. subst HasNoSections eh (same.0 yes);
  },
  λ right. same.1 (subst HasNoSections (sym eh) (right.none none)),
)

-- each line of the map is that of what its name means
pub lines_are :
    (s : Subject) (b : Bound) (rows : List SymbolRow) → b ≡ bound_of s → rows ≡ s.map.symbols →
    Ascends SymbolBefore s.map.symbols → AreSymbolsListed s → All (IsLine b.objects b.places) rows
lines_are s b rows eb er ascend listed =
    subst (λ (x : Bound). All (IsLine x.objects x.places) rows) (sym eb)
    (subst (All (IsLine (objects_of s) (where_of s))) (sym er) (each_line (objects_of s) (where_of s) s.map.symbols ascend listed.lines))
