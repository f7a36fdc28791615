-- A LOCAL symbol means the same to relocations whatever its name is, and so does one for which it is told which symbol they use.
use Rattle.std.proofs.Common.{◌&&◌, not, ◌≡◌, ◌↔◌, ◌%◌, ◌^◌, ℕ, [], Bool, true, false, cond, Option, Some, None, refl, sym, ◌∙◌, ap, subst, arith}
use Rattle.elf_model.specs.declared.constants.TheConstants.{SHN_COMMON, SHN_UNDEF}
use Rattle.std.specs.Prelude.{◌==◌, IsSomeAnd, IsTrue, List, option_map, unwrap_or}
use Rattle.std.specs.Option.{option_and_then, option_map_or, option_or}
use Rattle.std.proofs.lemmas.Bool.{false≢true}
use Rattle.std.proofs.lemmas.Option.{none-some, same_Some}
use Rattle.std.proofs.lemmas.Bool.Decides.{nat_tests}
use Rattle.elf_model.specs.Link.Commons.{block_named}
use Rattle.elf_model.specs.Link.LinkerNames.{bound_of}
use Rattle.elf_model.specs.Link.Loading.{LoadedObject}
use Rattle.elf_model.specs.Link.Meaning.{Common, Linker, Meaning, Symbol, is_in_thread_storage, meaning, meaning_size, meaning_value, meant}
use Rattle.elf_model.specs.Link.Placement.{symbol_value}
use Rattle.elf_model.specs.Image.MapRecord.{OfLocal, OfName}
use Rattle.elf_model.specs.Link.Relocation.{IsMixed, definition_of, is_local}
use Rattle.elf_model.specs.Link.Resolution.{SymbolOf, chosen, is_in_thread_section, is_undefined}
use Rattle.elf_model.specs.Link.Slots.{names_got, target_of}
use Rattle.elf_model.specs.Link.UsedNames.{is_linker_use}
use Rattle.check_link.specs.DefinitionList.{unnamed}
use Rattle.check_relocs.specs.Bindings.{Bound, IsOfUnkept, IsTargetOf}
use Rattle.check_relocs.specs.declared.targets.Target.{Target}

-- two definitions that relocations can't tell apart
record Alike (b : Bound) (x y : Option Meaning) : Type 0 where
  none : (x ≡ None) ↔ (y ≡ None)
  mixed : IsSomeAnd x (IsMixed b.objects) ↔ IsSomeAnd y (IsMixed b.objects)
  thread_local : option_map_or (is_in_thread_storage b.objects) x false ≡ option_map_or (is_in_thread_storage b.objects) y false
  value : unwrap_or (option_map (meaning_value b.places) x) 0 ≡ unwrap_or (option_map (meaning_value b.places) y) 0
  size : unwrap_or (option_map meaning_size x) 0 ≡ unwrap_or (option_map meaning_size y) 0

-- what a reference to a LOCAL symbol uses
local_use : (objects : List LoadedObject) (s : SymbolOf) → is_local s ≡ true →
    definition_of objects s ≡ cond (is_undefined s.entry) None (Some (Symbol s))
local_use objects s local =
    ap (λ b. cond b (cond (is_undefined s.entry) None (Some (Symbol s))) (meaning objects s.name)) local

alike_itself : (b : Bound) (s : SymbolOf) (e : Bool) → Alike b (cond e None (Some (Symbol s))) (cond e None (Some (Symbol (unnamed s))))
alike_itself b s true = record {
  none = ((λ p. p), (λ p. p));
  mixed = ((λ p. p), (λ p. p));
  thread_local = refl;
  value = refl;
  size = refl;
}
alike_itself b s false = record {
  none = ((λ e. absurd (none-some (Symbol s) (sym e))), (λ e. absurd (none-some (Symbol (unnamed s)) (sym e))));
  mixed = ((λ p. p), (λ p. p));
  thread_local = refl;
  value = refl;
  size = refl;
}

alike_uses : (b : Bound) (s : SymbolOf) → is_local s ≡ true → Alike b (definition_of b.objects s) (definition_of b.objects (unnamed s))
alike_uses b s local =
    subst (λ x. Alike b x (definition_of b.objects (unnamed s))) (sym (local_use b.objects s local))
    (subst (λ y. Alike b (cond (is_undefined s.entry) None (Some (Symbol s))) y) (sym (local_use b.objects (unnamed s) local))
    (alike_itself b s (is_undefined s.entry)))

pub target_unnamed : (b : Bound) (s : SymbolOf) (t : Target) → is_local s ≡ true → IsTargetOf b (record s { name = [] }) t → IsTargetOf b s t
target_unnamed b s t local is =
    let a = alike_uses b s local in
    record {
      undefined = ((λ h. let p = is.undefined.0 h in (p.0, p.1, a.none.1 p.2)), (λ q. is.undefined.1 (q.0, q.1, a.none.0 q.2)));
      unkept = is.unkept;
      dropped = is.dropped;
      mixed = ((λ h. a.mixed.1 (is.mixed.0 h)), (λ q. is.mixed.1 (a.mixed.0 q)));
      thread_local = is.thread_local ∙ sym a.thread_local;
      value = is.value ∙ ap (λ v. v % 2 ^ 64) (sym a.value);
      size = is.size ∙ sym a.size;
    }

other_number : (a b : ℕ) → (a ≡ b → ⊥) → (a == b) ≡ false
other_number a b other = grind (arith, nat_tests)

-- a LOCAL symbol that is defined is what relocations use
pub local_defined :
    (objects : List LoadedObject) (s : SymbolOf) → is_local s ≡ true → (s.entry.st_shndx ≡ SHN_UNDEF → ⊥) → definition_of objects s ≡ Some (Symbol s)
local_defined objects s local defined =
    local_use objects s local ∙ ap (λ e. cond e None (Some (Symbol s))) (other_number s.entry.st_shndx SHN_UNDEF defined)

-- so is the chosen definition of the name of one that isn't LOCAL, unless it is a common one
pub visible_defined :
    (objects : List LoadedObject) (s t : SymbolOf) → is_local s ≡ false → chosen objects s.name ≡ Some t → (t.entry.st_shndx ≡ SHN_COMMON → ⊥) →
    definition_of objects s ≡ Some (Symbol t)
visible_defined objects s t visible choice placed =
    ap (λ b. cond b (cond (is_undefined s.entry) None (Some (Symbol s))) (meaning objects s.name)) visible
    ∙ ap (λ o. option_or (option_and_then (meant objects) o) (option_map (Linker s.name) (bound_of objects s.name))) choice
    ∙ ap (λ b. option_or (cond b (option_map Common (block_named objects t.name)) (Some (Symbol t))) (option_map (Linker s.name) (bound_of objects s.name)))
    (other_number t.entry.st_shndx SHN_COMMON placed)

-- what is told of a symbol and of the symbol that relocations use, of both without their names, is what it means to them
pub defined_target :
    (b : Bound) (s t x d : SymbolOf) (r : Target) → unnamed s ≡ unnamed x → unnamed t ≡ unnamed d →
    definition_of b.objects s ≡ Some (Symbol t) → r.undefined ≡ false → (IsTrue r.unkept ↔ IsOfUnkept b.objects x) → r.dropped ≡ x.dropped →
    r.mixed ≡ false → r.thread_local ≡ is_in_thread_section b.objects d → r.value ≡ symbol_value b.places.placed d % 2 ^ 64 →
    r.size ≡ d.entry.st_size → IsTargetOf b s r
defined_target b s t x d r same same_used used undefined unkept dropped mixed thread value size =
    let L = b.objects in
    record {
      undefined = ((λ h. absurd (false≢true (sym undefined ∙ h))), (λ q. absurd (none-some (Symbol t) (sym q.2 ∙ used))));
      unkept = subst (λ (z : SymbolOf). IsTrue r.unkept ↔ IsOfUnkept L z) (sym same) unkept;
      dropped = dropped ∙ sym (ap (λ (z : SymbolOf). z.dropped) same);
      mixed = ((λ h. absurd (false≢true (sym mixed ∙ h))), (λ q. absurd (subst (λ (o : Option Meaning). IsSomeAnd o (IsMixed L)) used q)));
      thread_local = thread ∙ sym (ap (λ (z : SymbolOf). is_in_thread_section L z) same_used)
          ∙ sym (ap (λ (o : Option Meaning). option_map_or (is_in_thread_storage L) o false) used);
      value = value ∙ sym (ap (λ (z : SymbolOf). symbol_value b.places.placed z % 2 ^ 64) same_used)
          ∙ sym (ap (λ (o : Option Meaning). unwrap_or (option_map (meaning_value b.places) o) 0 % 2 ^ 64) used);
      size = size ∙ sym (ap (λ (z : SymbolOf). z.entry.st_size) same_used)
          ∙ sym (ap (λ (o : Option Meaning). unwrap_or (option_map meaning_size o) 0) used);
    }

-- the chosen definition that is told without its name
pub choice_of :
    (P : Type 0) (objects : List LoadedObject) (name : List ℕ) (d : SymbolOf) → option_map unnamed (chosen objects name) ≡ Some d →
    ((t : SymbolOf) → chosen objects name ≡ Some t → unnamed t ≡ d → P) → P
choice_of P objects name d told next = by (chosen objects name) refl told
  where
    by : (o : Option SymbolOf) → chosen objects name ≡ o → option_map unnamed o ≡ Some d → P
    by None e h = absurd (none-some d h)
    by (Some t) e h = next t e (same_Some (unnamed t) d h)

not_and : (b x : Bool) → b ≡ true → false ≡ (not b && x)
not_and true x e = refl
not_and false x e = absurd (false≢true e)

-- a LOCAL symbol names neither the GOT nor what the linker defines, and is the target itself
pub local_names_no_got : (objects : List LoadedObject) (s : SymbolOf) → is_local s ≡ true → false ≡ names_got objects s
local_names_no_got objects s local = not_and (is_local s) _ local

pub local_is_no_use : (objects : List LoadedObject) (s : SymbolOf) → is_local s ≡ true → false ≡ is_linker_use objects s
local_is_no_use objects s local = not_and (is_local s) _ local

pub local_target : (s : SymbolOf) → is_local s ≡ true → OfLocal s.object s.number ≡ target_of s
local_target s local = sym (ap (λ b. cond b (OfLocal s.object s.number) (OfName s.name)) local)

pub named_target : (s : SymbolOf) → is_local s ≡ false → OfName s.name ≡ target_of s
named_target s visible = sym (ap (λ b. cond b (OfLocal s.object s.number) (OfName s.name)) visible)
