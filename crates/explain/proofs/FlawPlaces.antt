-- A flaw's section or symbol, at the place that is made of it.
use Rattle.std.proofs.Common.{◌≡◌, ◌∙◌, ℕ, zero, suc, ◌+◌, ◌<◌, List, [], ◌∷◌, ◌++◌, Option, Some, true, ap, arith, get_or, length, subst, sym, take}
use Rattle.std.specs.Prelude.{map, unwrap_or}
use Rattle.std.specs.List.{slice_get}
use Rattle.std.proofs.lemmas.List.{map-append, take_more}
use Rattle.std.proofs.lemmas.Option.{get_or_from_slice_get, same_Some, slice_get_within}
use Rattle.elf_model.specs.Inputs.ObjectFile.{null_symbol, section, section_name, sections, symbol_name, symbols}
use Rattle.elf_model.specs.Link.Loading.{LoadedObject}
use Rattle.elf_model.specs.Link.Pieces.{IsLawfulKind, is_kept}
use Rattle.elf_model.specs.Link.Resolution.{SymbolOf, symbol_of}
use Rattle.elf_model.specs.declared.records.SectionHeader.{SectionHeader}
use Rattle.elf_model.specs.declared.records.Symbol.{Symbol}
use Rattle.flaws.specs.Flaws.{IsFlaw, IsSectionFlaw, IsSymbolFlaw}
use Rattle.layout.specs.Kinds.{IsLawfulIfKept}
use Rattle.search.specs.Faults.{IsObjectAt}
use Rattle.search.specs.Views.{loaded_view, loaded_views}
use Rattle.search.specs.declared.loaded.LoadedObject as code
use Rattle.search.specs.declared.loader.Reached.{Reached}
use Rattle.explain.specs.Flawed.{flaw_of_symbol}
use Rattle.explain.specs.Places.{IsLoadedAt, IsSectionOf, IsSymbolOf, IsSymbolWrong}
use Rattle.explain.specs.declared.place.EntryPlace.{EntryPlace}
use Rattle.explain.specs.declared.place.Place.{Place}
use Rattle.explain.specs.declared.place.SymbolFault.{SymbolFault}
use Rattle.explain.specs.declared.place.SymbolFault.TheVariants as symbol_fault

-- the object that has a number, among the views
pub object_there : (xs : List code.LoadedObject) (k : ℕ) (x : code.LoadedObject) → k < length xs → x ≡ get_or xs k x → slice_get (loaded_views xs) k ≡ Some (loaded_view x)
object_there [] k x low is = absurd (omega (arith, low))
object_there (y ∷ ys) zero x low is = (λ i. Some (loaded_view (sym is i)))
object_there (y ∷ ys) (suc k) x low is = object_there ys k x (omega (arith, low)) is

pub section_at :
    (objects : List LoadedObject) (k i : ℕ) (f : Reached) (p : EntryPlace SectionHeader) (o : LoadedObject) → IsSectionFlaw objects k i →
    slice_get objects k ≡ Some o → IsObjectAt f o → p.object ≡ k → p.number ≡ i → p.entry ≡ section (sections o.bytes) i →
    p.name.now ≡ unwrap_or (section_name o.bytes i) [] →
    IsLoadedAt objects p.object f (λ x. IsSectionOf x p × (¬ IsLawfulIfKept x p.number p.entry))
section_at objects k i f p o w there at object number entry name =
    let same : w.o ≡ o = same_Some w.o o (sym w.object ∙ there) in
    let of : slice_get (sections o.bytes) i ≡ Some w.h = subst (λ (x : LoadedObject). slice_get (sections x.bytes) i ≡ Some w.h) same w.section in
    let is : p.entry ≡ w.h = entry ∙ get_or_from_slice_get (sections o.bytes) i w.h _ of in
    record {
      o = o;
      there = rw object there;
      at = at;
      stands = (
        record { there = rw (number, is) of; name_is = rw number name },
        λ lawful. w.wrong (subst (λ (h : SectionHeader). IsLawfulKind h) is (lawful (rw (number, is) (subst (λ (x : LoadedObject). is_kept x i w.h ≡ true) same w.kept)))),
      );
    }

-- what is wrong with the symbol of a flaw
symbol_flaw : (objects : List LoadedObject) (fault : SymbolFault) (k j : ℕ) → IsFlaw objects (flaw_of_symbol fault k j) → IsSymbolFlaw objects (λ s. IsSymbolWrong objects s fault) k j
symbol_flaw objects symbol_fault.BadCommon k j w = w
symbol_flaw objects symbol_fault.BadSymbol k j w = w
symbol_flaw objects symbol_fault.Duplicate k j w = w

-- its object is there
pub symbol_within : (objects : List LoadedObject) (fault : SymbolFault) (k j : ℕ) → IsFlaw objects (flaw_of_symbol fault k j) → k < length objects
symbol_within objects fault k j w = let v = symbol_flaw objects fault k j w in slice_get_within objects k v.o v.object

pub symbol_at :
    (objects : List LoadedObject) (fault : SymbolFault) (k j : ℕ) (f : Reached) (p : EntryPlace Symbol) (o : LoadedObject) →
    IsFlaw objects (flaw_of_symbol fault k j) → slice_get objects k ≡ Some o → IsObjectAt f o → p.object ≡ k → p.number ≡ j →
    p.entry ≡ get_or (symbols o.bytes) j null_symbol → p.name.now ≡ unwrap_or (symbol_name o.bytes j) [] →
    IsLoadedAt objects p.object f (λ x. IsSymbolOf x p × IsSymbolWrong objects (symbol_of p.object x p.number p.entry) fault)
symbol_at objects fault k j f p o flaw there at object number entry name =
    let w = symbol_flaw objects fault k j flaw in
    let same : w.o ≡ o = same_Some w.o o (sym w.object ∙ there) in
    let of : slice_get (symbols o.bytes) j ≡ Some w.s = subst (λ (x : LoadedObject). slice_get (symbols x.bytes) j ≡ Some w.s) same w.symbol in
    let is : p.entry ≡ w.s = entry ∙ get_or_from_slice_get (symbols o.bytes) j w.s null_symbol of in
    record {
      o = o;
      there = rw object there;
      at = at;
      stands = (
        record { there = rw (number, is) of; name_is = rw number name },
        subst (λ (s : SymbolOf). IsSymbolWrong objects s fault) (λ i. symbol_of (sym object i) (same i) (sym number i) (sym is i)) w.wrong,
      );
    }

-- one place more, of the next flaw
pub one_more :
    {F : Type 0} (of : Place → Option F) (ps qs : List Place) (p : Place) (fs : List F) (i : ℕ) (d : F) → i < length fs → qs ≡ ps ++ p ∷ [] →
    map of ps ≡ map Some (take i fs) → of p ≡ Some (get_or fs i d) → map of qs ≡ map Some (take (i + 1) fs)
one_more of ps qs p fs i d low pushed before is =
    ap (map of) pushed
    ∙ (map-append of ps (p ∷ [])
    ∙ ((λ j. before j ++ is j ∷ [])
    ∙ (sym (map-append Some (take i fs) (get_or fs i d ∷ []))
    ∙ ap (map Some) (sym (take_more fs i d low)))))
