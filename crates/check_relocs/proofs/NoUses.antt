-- Objects of which no symbol has a name that the linker defines: their relocations use none.
use Rattle.std.proofs.Common.{◌≡◌, ℕ, ◌+◌, ◌<◌, ◌≤◌, ◌⊎◌, inl, inr, ◌||◌, ◌&&◌, ◌++◌, Bool, true, false, cond, List, [], ◌∷◌, get_or, length, refl, ap, subst, sym, ◌∙◌, arith}
use Rattle.std.specs.Prelude.{All, filter, not}
use Rattle.std.specs.List.{list_any}
use Rattle.std.specs.Str.{bytes_eq}
use Rattle.std.proofs.lemmas.Bool.{false≢true}
use Rattle.std.proofs.lemmas.List.{get_or_past}
use Rattle.std.proofs.lemmas.List.Elements.{All-append, All-head, All-map, All-nil, All-tail}
use Rattle.elf_model.specs.Link.Loading.{LoadedObject}
use Rattle.elf_model.specs.Inputs.ObjectFile.{null_symbol, relas_of, sections, symbols}
use Rattle.elf_model.specs.Link.Relocation.{Relocation, is_kept_rela, is_some_kind, relocation_of, relocations_behind, relocations_from, relocations_in, symbol_at}
use Rattle.elf_model.specs.Link.Resolution.{symbol_of}
use Rattle.elf_model.specs.Link.UsedNames.{is_linker_use, uses_line}
use Rattle.elf_model.specs.declared.records.SectionHeader.{SectionHeader}
use Rattle.elf_model.specs.declared.records.Symbol.{Symbol}
use Rattle.check_link.proofs.Padded.{below_or_not}
use Rattle.check_relocs.specs.LinkerUses.{HaveNoUses}

module _ (L : List LoadedObject) (k : ℕ) (o : LoadedObject) where
  abbrev IsNoUse : ℕ → Type 0
  IsNoUse j = is_linker_use L (symbol_at k o j) ≡ false

  -- one more symbol is none
  pub no_use_more : (i : ℕ) → ((j : ℕ) → j < i → IsNoUse j) → IsNoUse i → (j : ℕ) → j < i + 1 → IsNoUse j
  no_use_more i before here j low = by (below_or_not j i)
    where
      by : (j < i) ⊎ (i ≤ j) → IsNoUse j
      by (inl below) = before j below
      by (inr past) = let e : i ≡ j = omega (arith, past, low) in subst IsNoUse e here

  -- past the last symbol there is the null symbol alone, which has no name
  pub no_use_past : (i : ℕ) → ((j : ℕ) → j < i → IsNoUse j) → length (symbols o.bytes) ≤ i → HaveNoUses L k o
  no_use_past i before past j = by (below_or_not j i)
    where
      by : (j < i) ⊎ (i ≤ j) → IsNoUse j
      by (inl below) = before j below
      by (inr behind) = ap (λ (e : Symbol). is_linker_use L (symbol_of k o j e)) (get_or_past (symbols o.bytes) j null_symbol (omega (arith, past, behind)))

  module _ (none : HaveNoUses L k o) where
    unused_in : (h : SectionHeader) → All (λ r. is_linker_use L r.symbol ≡ false) (relocations_in k o h)
    unused_in h =
        All-map (λ (r : Relocation). is_linker_use L r.symbol ≡ false) (relocation_of k o h.sh_info) (filter is_some_kind (relas_of o.bytes h))
        (λ i d low. none (relocation_of k o h.sh_info (get_or (filter is_some_kind (relas_of o.bytes h)) i d)).symbol.number)

    unused_behind : (hs : List SectionHeader) (i : ℕ) → All (λ r. is_linker_use L r.symbol ≡ false) (relocations_behind k o i hs)
    unused_behind [] i = All-nil (λ (r : Relocation). is_linker_use L r.symbol ≡ false)
    unused_behind (h ∷ hs) i = by (is_kept_rela o i h) (unused_behind hs (i + 1))
      where
        by :
            (b : Bool) → All (λ r. is_linker_use L r.symbol ≡ false) (relocations_behind k o (i + 1) hs) →
            All (λ r. is_linker_use L r.symbol ≡ false) (cond b (relocations_in k o h) [] ++ relocations_behind k o (i + 1) hs)
        by true rest = All-append (λ (r : Relocation). is_linker_use L r.symbol ≡ false) (relocations_in k o h) (relocations_behind k o (i + 1) hs) (unused_in h) rest
        by false rest = rest

    none_uses : (n : List ℕ) (rs : List Relocation) → All (λ r. is_linker_use L r.symbol ≡ false) rs → list_any (uses_line L n) rs ≡ false
    none_uses n [] all = refl
    none_uses n (r ∷ rs) all =
        ap (λ (b : Bool). (b && bytes_eq r.symbol.name n) || list_any (uses_line L n) rs) (All-head (λ (x : Relocation). is_linker_use L x.symbol ≡ false) r rs all)
        ∙ none_uses n rs (All-tail (λ (x : Relocation). is_linker_use L x.symbol ≡ false) r rs all)

    -- no relocation of the object uses such a name
    pub object_uses_none : (n : List ℕ) → list_any (uses_line L n) (relocations_from k o) ≡ false
    object_uses_none n = none_uses n (relocations_from k o) (unused_behind (sections o.bytes) 0)

pub or_none : (a b : Bool) → b ≡ false → a ≡ (a || b)
or_none true b e = refl
or_none false b e = sym e

pub was_false : (b : Bool) → not b ≡ true → b ≡ false
was_false true e = absurd (false≢true e)
was_false false e = refl

pub no_more : (b : Bool) → b ≡ (b || false)
no_more true = refl
no_more false = refl
