-- The headers of a link are right exactly where they are by what decides it.
use Rattle.std.proofs.Common.{◌≡◌, Bool, List, Option, ℕ, subst}
use Rattle.std.specs.Prelude.{◌↔◌, true}
use Rattle.std.proofs.lemmas.List.Elements.{All-weaker}
use Rattle.elf_model.specs.Image.MemoryImage.{program_headers}
use Rattle.elf_model.specs.Link.Loading.{LoadedObject}
use Rattle.elf_model.specs.Link.Placement.{Placed}
use Rattle.elf_model.specs.declared.records.ProgramHeader.{ProgramHeader}
use Rattle.judge_model.specs.Headers.{AreHeadersRight, IsPhysical, IsStackRight, ProtectsNone, is_used_late}
use Rattle.judge_model.specs.Links.{ForeignLink, objects_of, placed_of}
use Rattle.judge_model.specs.Plans.{in_script}
use Rattle.header_judge.specs.Rights.{AreRightBy, HasPhysical, HasStack, IsApart, IsOfLink, IsSpared, SparesAll, may_execute, must_execute}

module _ (l : ForeignLink) where
  spares_of : (h : ProgramHeader) → SparesAll (placed_of l) h → ProtectsNone l h
  spares_of h s relro =
      All-weaker (IsSpared h) (λ (q : Placed). is_used_late q ≡ true → IsApart h q) (λ q p. p.spared) (placed_of l) (s.spares relro)

  of_spares : (h : ProgramHeader) → ProtectsNone l h → SparesAll (placed_of l) h
  of_spares h p = record {
    spares = λ relro.
        All-weaker (λ (q : Placed). is_used_late q ≡ true → IsApart h q) (IsSpared h) (λ q late. record { spared = late }) (placed_of l) (p relro);
  }

  own_right :
      AreRightBy l.image (in_script (λ t. t.physical) l.plan) (must_execute l.plan.executes_stack (objects_of l))
      (may_execute l.plan.executes_stack (objects_of l)) (placed_of l)
      ↔ AreHeadersRight l
  own_right = (
    λ r. record {
      program = r.program;
      physical = All-weaker (HasPhysical (in_script (λ t. t.physical) l.plan)) (IsPhysical l) (λ h p. p.same) (program_headers l.image) r.physicals;
      relro = All-weaker (SparesAll (placed_of l)) (ProtectsNone l) spares_of (program_headers l.image) r.spares;
      stack =
          All-weaker (HasStack (may_execute l.plan.executes_stack (objects_of l))) (IsStackRight l) (λ h s. s.stack) (program_headers l.image)
          r.stacks;
      executed = r.told.executed;
      told = r.told.told;
    },
    λ r. record {
      program = r.program;
      physicals =
          All-weaker (IsPhysical l) (HasPhysical (in_script (λ t. t.physical) l.plan)) (λ h p. record { same = p }) (program_headers l.image)
          r.physical;
      spares = All-weaker (ProtectsNone l) (SparesAll (placed_of l)) of_spares (program_headers l.image) r.relro;
      stacks =
          All-weaker (IsStackRight l) (HasStack (may_execute l.plan.executes_stack (objects_of l))) (λ h s. record { stack = s })
          (program_headers l.image) r.stack;
      told = record { executed = r.executed; told = r.told };
    },
  )

  -- by what the code has of a link
  pub right_by :
      (image : List ℕ) (os : List LoadedObject) (qs : List Placed) (physical : Bool) (executes : Option Bool) → IsOfLink l image os qs physical executes →
      AreRightBy image physical (must_execute executes os) (may_execute executes os) qs ↔ AreHeadersRight l
  right_by image os qs physical executes of =
      subst (λ (i : List ℕ). AreRightBy i physical (must_execute executes os) (may_execute executes os) qs ↔ AreHeadersRight l) of.image_is
      (subst (λ (o : List LoadedObject). AreRightBy l.image physical (must_execute executes o) (may_execute executes o) qs ↔ AreHeadersRight l)
      of.objects_are
      (subst (λ (q : List Placed). AreRightBy l.image physical (must_execute executes (objects_of l)) (may_execute executes (objects_of l)) q ↔ AreHeadersRight l)
      of.placed_are
      (subst (λ (b : Bool). AreRightBy l.image b (must_execute executes (objects_of l)) (may_execute executes (objects_of l)) (placed_of l) ↔ AreHeadersRight l)
      of.physical_is
      (subst (λ (e : Option Bool). AreRightBy l.image (in_script (λ t. t.physical) l.plan) (must_execute e (objects_of l)) (may_execute e (objects_of l)) (placed_of l) ↔ AreHeadersRight l)
      of.executes_is own_right))))
