use Rattle.std.proofs.Common.{◌≢◌, ◌∙◌, List, ap, subst, sym}
use Rattle.std.specs.Prelude.{Err, Ok, Result}
use Rattle.image_write.specs.declared.sink.WriteFault.{WriteFault}
use Rattle.image_write.specs.declared.sink.WriteFault.TheVariants.{Device, Memory}
use Rattle.debug_image.specs.DebugImage.{CanBeSaid}
use Rattle.resolve.specs.Views.{meaning_views}
use Rattle.resolve.specs.declared.definition.Definition.{Definition}
use Rattle.debug_main.proofs.Differences.{fresh, outcome, told_right}
use Rattle.debug_main.proofs.FileParts.{file_is}
use Rattle.debug_main.specs.DebugFiles.{AreParts, file_of}
use Rattle.debug_main.specs.Verdicts.{Compares}
use Rattle.debug_main.proofs.checking.compared.Goals as goal

-- a success or a device's fault, which is no want of memory
abbrev IsOther : {X : Type 0} → Result X WriteFault → Type 0
IsOther (Ok x) = Unit {0}
IsOther (Err Memory) = ⊥
IsOther (Err Device) = Unit {0}

other_than : {X : Type 0} (r : Result X WriteFault) → IsOther r → r ≢ Err Memory
other_than r other is = subst (λ s. IsOther s) is other

pub difference-requires : goal.difference-requires
difference-requires c =
    let sink = c.write_debug_file.new.sink in
    let e = c.write_debug_file.ensures in
    let new = c.new-sink in
    let other : c.write_debug_file.result ≢ Err Memory = other_than c.write_debug_file.result (subst (λ r. IsOther r) (sym c.in-Ok.is) tt) in
    (outcome c.args.image.now sink.image.now (file_of c.in_ok-layout.layout c.in_ok-parts.parts) sink.same sink.wrong sink.failures c.write_debug_file.result _
    (fresh c.args.image.now new.result.image.now new.result.same new.result.wrong new.ensures.image new.ensures.none.0 new.ensures.none.1) e.written e.part e.failure
    sink.sound other).same_image

pub returns-in-Ok-clause-compared : goal.returns-in-Ok-clause-compared
returns-in-Ok-clause-compared c =
    let sink = c.write_debug_file.new.sink in
    let e = c.write_debug_file.ensures in
    let new = c.new-sink in
    let names = c.in_ok-names.names.items in
    let link = c.args.linkage.now in
    let other : c.write_debug_file.result ≢ Err Memory = other_than c.write_debug_file.result (subst (λ r. IsOther r) (sym c.in-Ok.is) tt) in
    let parts = subst (λ (ns : List Definition). AreParts link (meaning_views ns) c.args.wanted c.in_ok-parts.parts) c.deref.ensures.value c.in_ok-parts.ensures.parts in
    let said = subst (λ (ns : List Definition). CanBeSaid c.args.wanted link (meaning_views ns)) c.deref.ensures.value c.in_ok-parts.ensures.said in
    let file = file_is c.args.wanted link (meaning_views names) c.in_ok-parts.parts c.in_ok-layout.layout parts c.in_ok-layout.ensures.data in
    let made =
    outcome c.args.image.now sink.image.now (file_of c.in_ok-layout.layout c.in_ok-parts.parts) sink.same sink.wrong sink.failures c.write_debug_file.result _
    (fresh c.args.image.now new.result.image.now new.result.same new.result.wrong new.ensures.image new.ensures.none.0 new.ensures.none.1) e.written e.part e.failure
    sink.sound other in (
      names,
      c.in_ok-names.ensures,
      said,
      subst (λ f. Compares c.args.image.now f c.difference.result) file
          (told_right c.args.image.now sink.image.now (file_of c.in_ok-layout.layout c.in_ok-parts.parts) sink.same sink.wrong c.difference.result made sink.within
          sink.differs c.difference.ensures.same c.difference.ensures.none c.difference.ensures.other),
    )

pub difference-requires-in-Err-Device : goal.difference-requires-in-Err-Device
difference-requires-in-Err-Device c =
    let sink = c.write_debug_file.new.sink in
    let e = c.write_debug_file.ensures in
    let new = c.new-sink in
    let other : c.write_debug_file.result ≢ Err Memory = other_than c.write_debug_file.result (subst (λ r. IsOther r) (sym (c.in-Err-Device.is ∙ ap Err c.in-Err-Device.field-0-is)) tt) in
    (outcome c.args.image.now sink.image.now (file_of c.in_ok-layout.layout c.in_ok-parts.parts) sink.same sink.wrong sink.failures c.write_debug_file.result _
    (fresh c.args.image.now new.result.image.now new.result.same new.result.wrong new.ensures.image new.ensures.none.0 new.ensures.none.1) e.written e.part e.failure
    sink.sound other).same_image

pub returns-in-Err-Device-clause-compared : goal.returns-in-Err-Device-clause-compared
returns-in-Err-Device-clause-compared c =
    let sink = c.write_debug_file.new.sink in
    let e = c.write_debug_file.ensures in
    let new = c.new-sink in
    let names = c.in_ok-names.names.items in
    let link = c.args.linkage.now in
    let other : c.write_debug_file.result ≢ Err Memory = other_than c.write_debug_file.result (subst (λ r. IsOther r) (sym (c.in-Err-Device.is ∙ ap Err c.in-Err-Device.field-0-is)) tt) in
    let parts = subst (λ (ns : List Definition). AreParts link (meaning_views ns) c.args.wanted c.in_ok-parts.parts) c.deref.ensures.value c.in_ok-parts.ensures.parts in
    let said = subst (λ (ns : List Definition). CanBeSaid c.args.wanted link (meaning_views ns)) c.deref.ensures.value c.in_ok-parts.ensures.said in
    let file = file_is c.args.wanted link (meaning_views names) c.in_ok-parts.parts c.in_ok-layout.layout parts c.in_ok-layout.ensures.data in
    let made =
    outcome c.args.image.now sink.image.now (file_of c.in_ok-layout.layout c.in_ok-parts.parts) sink.same sink.wrong sink.failures c.write_debug_file.result _
    (fresh c.args.image.now new.result.image.now new.result.same new.result.wrong new.ensures.image new.ensures.none.0 new.ensures.none.1) e.written e.part e.failure
    sink.sound other in (
      names,
      c.in_ok-names.ensures,
      said,
      subst (λ f. Compares c.args.image.now f c.difference-in-Err-Device.result) file
          (told_right c.args.image.now sink.image.now (file_of c.in_ok-layout.layout c.in_ok-parts.parts) sink.same sink.wrong c.difference-in-Err-Device.result made sink.within
          sink.differs c.difference-in-Err-Device.ensures.same c.difference-in-Err-Device.ensures.none c.difference-in-Err-Device.ensures.other),
    )
