use Rattle.std.proofs.Common.{◌≡◌, ◌+◌, ◌*◌, drop}
use Rattle.std.specs.List.{flat_map}
use Rattle.elf_model.specs.Image.MapText.{slot_text}
use Rattle.elf_model.specs.Own.OwnLayout.{slots_from}
use Rattle.got_tls.specs.Views.{slot_views}
use Rattle.linker.proofs.Behind.{Leads}
use Rattle.linker.proofs.own_text.put_slots_from.Given as goal

abbrev pub invariant-loop-slot : goal.invariant-loop-slot
invariant-loop-slot g l = record {
  address : l.address ≡ l.got + 8 * l.slot-index;
  text : Leads (g.T.LineSink.told l.fn.text) (flat_map slot_text (slots_from (l.got + 8) (slot_views l.slots)))
      (g.T.LineSink.told l.text) (flat_map slot_text (slots_from (l.address + 8) (slot_views (drop l.slot-index l.slots))));
}
