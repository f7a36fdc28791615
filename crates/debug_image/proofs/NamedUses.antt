-- What an entry uses that names a symbol which isn't LOCAL, by the number of its name.
use Rattle.std.proofs.Common.{◌≡◌, ◌≤◌, ◌<◌, ◌/◌, ◌∙◌, ◌||◌, ◌⊎◌, ℕ, Bool, true, false, cond, List, [], Option, None, Some, ap, arith, get_or, inl, inr, refl, sym}
use Rattle.std.specs.Prelude.{◌==◌, unwrap_or}
use Rattle.std.specs.List.{slice_get}
use Rattle.std.specs.Option.{option_and_then}
use Rattle.std.proofs.lemmas.Bool.{cases_lt, false≢true}
use Rattle.std.proofs.lemmas.Option.{get_or_from_slice_get, unwrap_or-slice_get}
use Rattle.elf_model.specs.Inputs.ObjectFile.{IsGoodSymbol, IsObject, name_of_symbol, null_symbol, symbols}
use Rattle.elf_model.specs.Inputs.Records.{file_header}
use Rattle.elf_model.specs.Link.Loading.{AreObjects, LoadedObject, is_global_or_weak}
use Rattle.elf_model.specs.Link.Meaning.{Meaning, Symbol, meaning}
use Rattle.elf_model.specs.Link.Relocation.{definition_of, is_local, symbol_at}
use Rattle.elf_model.specs.Link.Resolution.{SymbolOf, is_undefined}
use Rattle.elf_model.specs.declared.records.Symbol as entry
use Rattle.search.specs.Loads.{LoadedPlan}
use Rattle.search.specs.Names.{number_of}
use Rattle.search.specs.Numbers.{AreNamed, name_number}
use Rattle.resolve.proofs.NamedNumbers.{name_told}
use Rattle.resolve.proofs.Located.{All-at}

-- a binding of at most 2 that isn't 0 is 1 or 2
other_binding : (n : ℕ) → n ≤ 2 → (n == 0) ≡ false → ((n == 1) || (n == 2)) ≡ true
other_binding n most other = first (cases_lt n 1)
  where
    second : 1 ≤ n → (n < 2) ⊎ (2 ≤ n) → ((n == 1) || (n == 2)) ≡ true
    second low (inl less) = let one : n ≡ 1 = omega (arith, low, less) in ap (λ (m : ℕ). (m == 1) || (m == 2)) one
    second low (inr more) = let two : n ≡ 2 = omega (arith, most, more) in ap (λ (m : ℕ). (m == 1) || (m == 2)) two

    first : (n < 1) ⊎ (1 ≤ n) → ((n == 1) || (n == 2)) ≡ true
    first (inl less) = let none : n ≡ 0 = omega (arith, less) in absurd (false≢true (sym other ∙ ap (λ (m : ℕ). m == 0) none))
    first (inr more) = second more (cases_lt n 2)

-- a symbol whose binding isn't LOCAL
bound : (s : entry.Symbol) → s.st_info / 16 ≤ 2 → (s.st_info / 16 == 0) ≡ false → is_global_or_weak s ≡ true
bound s most other = other_binding (s.st_info / 16) most other

module _ (l : LoadedPlan) (k j : ℕ) (o : LoadedObject) (here : slice_get l.objects k ≡ Some o) (objects : AreObjects l.objects) (shared : is_local (symbol_at k o j) ≡ false) where
  abbrev number_at : entry.Symbol → Option ℕ
  number_at s = cond (is_global_or_weak s) (Some (number_of l.names (name_of_symbol o.bytes s))) None

  numbered : (s : Option entry.Symbol) → slice_get (symbols o.bytes) j ≡ s → (n : ℕ) × (option_and_then number_at s ≡ Some n)
  numbered None none = absurd (false≢true (sym shared ∙ ap (λ (s : entry.Symbol). s.st_info / 16 == 0) (missing none)))
    where
      missing : slice_get (symbols o.bytes) j ≡ None → get_or (symbols o.bytes) j null_symbol ≡ null_symbol
      missing e = sym (unwrap_or-slice_get (symbols o.bytes) j null_symbol) ∙ ap (λ (s : Option entry.Symbol). unwrap_or s null_symbol) e
  numbered (Some s) is =
      let same : get_or (symbols o.bytes) j null_symbol ≡ s = get_or_from_slice_get (symbols o.bytes) j s null_symbol is in
      let good : IsObject o.bytes = All-at (λ (p : LoadedObject). IsObject p.bytes) l.objects k o objects here in
      let fit = All-at (IsGoodSymbol (file_header o.bytes).e_shnum) (symbols o.bytes) j s good.symbols.symbols.each is in (
        number_of l.names (name_of_symbol o.bytes s),
        ap (λ (b : Bool). cond {A = Option ℕ} b (Some (number_of l.names (name_of_symbol o.bytes s))) None)
            (bound s fit.binding (sym (ap (λ (t : entry.Symbol). t.st_info / 16 == 0) same) ∙ shared)),
      )

  -- its name has a number
  pub has_number : (n : ℕ) × (name_number l k j ≡ Some n)
  has_number =
      let is = numbered (slice_get (symbols o.bytes) j) refl in
      (is.0, ap (option_and_then (λ (p : LoadedObject). option_and_then (λ (s : entry.Symbol). cond {A = Option ℕ} (is_global_or_weak s) (Some (number_of l.names (name_of_symbol p.bytes s))) None) (slice_get (symbols p.bytes) j))) here ∙ is.1)

  -- and what is meant by the name that has it is what is used
  pub used_by : AreNamed l → (n : ℕ) → name_number l k j ≡ Some n → definition_of l.objects (symbol_at k o j) ≡ meaning l.objects (get_or l.names n [])
  used_by named n is =
      let s : SymbolOf = symbol_at k o j in
      ap (λ (b : Bool). cond b (cond (is_undefined s.entry) None (Some (Symbol s))) (meaning l.objects s.name)) shared
      ∙ ap (meaning l.objects) (sym (name_told l k j o n named here is))

-- what an entry uses whose symbol is LOCAL
pub local_none : (os : List LoadedObject) (s : SymbolOf) → is_local s ≡ true → is_undefined s.entry ≡ true → definition_of os s ≡ None
local_none os s local undefined =
    ap (λ (b : Bool). cond b (cond (is_undefined s.entry) None (Some (Symbol s))) (meaning os s.name)) local
    ∙ ap (λ (b : Bool). cond {A = Option Meaning} b None (Some (Symbol s))) undefined

pub local_some : (os : List LoadedObject) (s : SymbolOf) → is_local s ≡ true → is_undefined s.entry ≡ false → definition_of os s ≡ Some (Symbol s)
local_some os s local defined =
    ap (λ (b : Bool). cond b (cond (is_undefined s.entry) None (Some (Symbol s))) (meaning os s.name)) local
    ∙ ap (λ (b : Bool). cond {A = Option Meaning} b None (Some (Symbol s))) defined
