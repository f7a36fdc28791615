-- The contents of .symtab and .strtab in front of others: where they are divided, and what is left of them.
use Rattle.std.proofs.Common.{◌≡◌, ℕ, ◌*◌, ◌/◌, ◌<◌, ◌≤◌, List, [], ◌∷◌, ◌++◌, Some, None, length, take, drop, replicate, sym, ◌∙◌, ap, arith}
use Rattle.std.specs.Borrow.{Bor}
use Rattle.std.specs.List.{flat_map}
use Rattle.std.proofs.lemmas.List.{drop_at, length-append, length-take, take-append-drop, take_at}
use Rattle.elf_model.proofs.Rests.{Left}
use Rattle.elf_model.proofs.TableLaws.{length-symbol_section}
use Rattle.elf_model.specs.Link.Meaning.{Meaning}
use Rattle.elf_model.specs.Link.Placement.{Where}
use Rattle.elf_model.specs.Inputs.Records.{symbol_bytes}
use Rattle.elf_model.specs.Inputs.ObjectFile.{null_symbol}
use Rattle.elf_model.specs.Image.SymbolTable.{entries_from, name_section, symbol_section}
use Rattle.check_tables.specs.Tabled.{AreLeft, AreTables, Strips, ended_names}

-- no more entries than there is room for
pub too_many :
    (w : Where) (ms : List Meaning) (bytes : List ℕ) (count : ℕ) (others : List ℕ) → length bytes / 24 < count →
    AreTables w ms 0 bytes count others → ⊥
too_many w ms bytes count others more a =
    let n = length-symbol_section w ms in
    let l = ap length a.bytes_are ∙ length-append (symbol_section w ms) (name_section ms ++ others) in
    let c = a.count_is in omega (arith, n, l, c, more)

module _
    (bytes entries names : List ℕ) (count : ℕ) (front : entries ≡ take (24 * count) bytes) (back : names ≡ drop (24 * count) bytes)
    (fits : 24 * count ≤ length bytes) (w : Where) (ms : List Meaning) (others : List ℕ)
  where
    long : AreTables w ms 0 bytes count others → length (symbol_section w ms) ≡ 24 * count
    long a = let n = length-symbol_section w ms in let c = a.count_is in omega (arith, n, c)

    pub entries_there :
        AreTables w ms 0 bytes count others → entries ≡ symbol_bytes null_symbol ++ flat_map symbol_bytes (entries_from w 1 ms)
    entries_there a =
        front ∙ (ap (take (24 * count)) a.bytes_are ∙ take_at (symbol_section w ms) (name_section ms ++ others) (24 * count) (long a))

    pub names_there : AreTables w ms 0 bytes count others → names ≡ (0 ∷ []) ++ (ended_names ms ++ others)
    names_there a =
        back ∙ (ap (drop (24 * count)) a.bytes_are ∙ drop_at (symbol_section w ms) (name_section ms ++ others) (24 * count) (long a))

    pub no_entries : Strips (symbol_bytes null_symbol) entries None → AreTables w ms 0 bytes count others → ⊥
    no_entries h a = (h (flat_map symbol_bytes (entries_from w 1 ms))).0 (entries_there a)

    pub no_names : Strips (0 ∷ []) names None → AreTables w ms 0 bytes count others → ⊥
    no_names h a = (h (ended_names ms ++ others)).0 (names_there a)

    module _ (es ns : Bor (List ℕ)) (he : Strips (symbol_bytes null_symbol) entries (Some es)) (hn : Strips (0 ∷ []) names (Some ns)) where
      pub left_of : AreTables w ms 0 bytes count others → AreLeft w es.now ns.now 1 ms others
      left_of a = record {
        entries_are = (he (flat_map symbol_bytes (entries_from w 1 ms))).0 (entries_there a);
        names_are = (hn (ended_names ms ++ others)).0 (names_there a);
        fit = let f = a.names_fit in omega (arith, f);
      }

      pub tables_from : AreLeft w es.now ns.now 1 ms others → AreTables w ms 0 bytes count others
      tables_from l =
          let e : entries ≡ symbol_section w ms = (he (flat_map symbol_bytes (entries_from w 1 ms))).1 l.entries_are in
          let n : names ≡ name_section ms ++ others = (hn (ended_names ms ++ others)).1 l.names_are in
          let whole : bytes ≡ entries ++ names =
          sym (take-append-drop (24 * count) bytes) ∙ (λ i. sym front i ++ sym back i) in
          record {
            bytes_are = whole ∙ (λ i. e i ++ n i);
            count_is =
                let a = ap length (sym front ∙ e) in
                let b = length-take (24 * count) bytes in
                let c = length-symbol_section w ms in omega (arith, a, b, c, fits);
            names_fit = let f = l.fit in omega (arith, f);
          }

-- the zeros in front
module _ (w : Where) (ms : List Meaning) (padding : ℕ) (bytes : List ℕ) (count : ℕ) (others : List ℕ) where
  abbrev contents : List ℕ
  contents = symbol_section w ms ++ (name_section ms ++ others)

  pub no_zeros : Strips (replicate padding 0) bytes None → AreTables w ms padding bytes count others → ⊥
  no_zeros h a = (h contents).0 a.bytes_are

  pub unpadded :
      (r : Bor (List ℕ)) → Strips (replicate padding 0) bytes (Some r) →
      Left (AreTables w ms padding bytes count others) (AreTables w ms 0 r.now count others)
  unpadded r h = (
    λ a. record { bytes_are = (h contents).0 a.bytes_are; count_is = a.count_is; names_fit = a.names_fit },
    λ a. record { bytes_are = (h contents).1 a.bytes_are; count_is = a.count_is; names_fit = a.names_fit },
  )

  -- the entries take up bytes
  pub count_inside : AreTables w ms padding bytes count others → 24 * count ≤ length bytes
  count_inside a =
      let l = ap length a.bytes_are ∙ length-append (replicate {A = ℕ} padding 0) contents in
      let m = length-append (symbol_section w ms) (name_section ms ++ others) in
      let n = length-symbol_section w ms in
      let c = a.count_is in omega (arith, l, m, n, c)
