-- Keys of output sections compare by what they have.
use mathlib.Core.Bool.{beq}
use Rattle.std.proofs.Common.{◌≡◌, Bool, true, ◌&&◌, ap}
use Rattle.std.specs.Str.{bytes_eq}
use Rattle.std.specs.Cmp.{booleans_Decides}
use Rattle.std.proofs.lemmas.Bool.{and_from, and_parts}
use Rattle.std.proofs.lemmas.Slice.Eq.{bytes_eq-Decides}
use Rattle.resolve.specs.OutputSections.{Output, output_view}
use Rattle.resolve.specs.declared.output_sections.OutputSection.{OutputSection}
use Rattle.resolve.proofs.OutputSteps.{Compares}

-- the comparison that is derived
abbrev pub key_eq : OutputSection → OutputSection → Bool
key_eq a b =
    bytes_eq a.name.0.now b.name.0.now
    && (beq a.writable b.writable
    && (beq a.executable b.executable && (beq a.thread_local b.thread_local && beq a.nobits b.nobits)))

pub key_eq-compares : Compares key_eq
key_eq-compares a b = (told, tells)
  where
    last : Bool
    last = beq a.thread_local b.thread_local && beq a.nobits b.nobits

    rest : Bool
    rest = beq a.executable b.executable && last

    all : Bool
    all = beq a.writable b.writable && rest

    told : key_eq a b ≡ true → output_view a ≡ output_view b
    told e =
        let e1 = and_parts (bytes_eq a.name.0.now b.name.0.now) all e in
        let e2 = and_parts (beq a.writable b.writable) rest e1.1 in
        let e3 = and_parts (beq a.executable b.executable) last e2.1 in
        let e4 = and_parts (beq a.thread_local b.thread_local) (beq a.nobits b.nobits) e3.1 in
        let n = (bytes_eq-Decides a.name.0.now b.name.0.now).0 e1.0 in
        let w = (booleans_Decides a.writable b.writable).0 e2.0 in
        let x = (booleans_Decides a.executable b.executable).0 e3.0 in
        let t = (booleans_Decides a.thread_local b.thread_local).0 e4.0 in
        let z = (booleans_Decides a.nobits b.nobits).0 e4.1 in
        λ i. record { name = n i; writable = w i; executable = x i; thread_local = t i; nobits = z i }

    tells : output_view a ≡ output_view b → key_eq a b ≡ true
    tells e =
        and_from (bytes_eq a.name.0.now b.name.0.now) all ((bytes_eq-Decides a.name.0.now b.name.0.now).1 (ap (λ (o : Output). o.name) e))
        (and_from (beq a.writable b.writable) rest ((booleans_Decides a.writable b.writable).1 (ap (λ (o : Output). o.writable) e))
        (and_from (beq a.executable b.executable) last ((booleans_Decides a.executable b.executable).1 (ap (λ (o : Output). o.executable) e))
        (and_from (beq a.thread_local b.thread_local) (beq a.nobits b.nobits)
        ((booleans_Decides a.thread_local b.thread_local).1 (ap (λ (o : Output). o.thread_local) e))
        ((booleans_Decides a.nobits b.nobits).1 (ap (λ (o : Output). o.nobits) e)))))
