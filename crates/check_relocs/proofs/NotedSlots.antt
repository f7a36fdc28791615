-- The slot of a symbol of an object for whose name loading noted a number.
use Rattle.std.proofs.Common.{◌≡◌, ℕ, Bool, false, cond, List, Option, None, Some, sym, ◌∙◌, ap}
use Rattle.std.specs.Prelude.{IfSome, slice_get}
use Rattle.elf_model.specs.Link.Loading.{LoadedObject}
use Rattle.elf_model.specs.Image.MapRecord.{OfLocal, OfName, SlotRow}
use Rattle.elf_model.specs.Link.Relocation.{is_local, symbol_at}
use Rattle.check_link.specs.Slots.{Slots, kind_view, line_of, name_request}
use Rattle.check_relocs.specs.Bindings.{Bound}
use Rattle.check_relocs.specs.KnownSlots.{request_at}

visible : (n j : ℕ) (o : LoadedObject) (thread : Bool) → is_local (symbol_at n o j) ≡ false → request_at n o j thread ≡ name_request thread o j
visible n j o thread local =
    ap (λ (b : Bool). record { kind = kind_view thread; target = cond b (OfLocal (symbol_at n o j).object (symbol_at n o j).number) (OfName (symbol_at n o j).name) }) local

pub noted_here :
    (slots : Slots) (b : Bound) (n j : ℕ) (o : LoadedObject) (thread : Bool) (r : Option ℕ) → slots.rows ≡ b.places.slots → slots.objects ≡ b.objects →
    slice_get b.objects n ≡ Some o → is_local (symbol_at n o j) ≡ false →
    IfSome r (λ i. (x : LoadedObject) → slice_get slots.objects n ≡ Some x → line_of slots.rows (name_request thread x j) ≡ Some i) →
    IfSome r (λ i. line_of b.places.slots (request_at n o j thread) ≡ Some i)
noted_here slots b n j o thread None rows objects own local told = tt
noted_here slots b n j o thread (Some i) rows objects own local told =
    ap (λ (rs : List SlotRow). line_of rs (request_at n o j thread)) (sym rows)
    ∙ (ap (line_of slots.rows) (visible n j o thread local) ∙ told o (ap (λ (L : List LoadedObject). slice_get L n) objects ∙ own))
