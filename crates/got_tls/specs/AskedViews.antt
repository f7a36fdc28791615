-- What was asked for, as the definitions see it.
use Rattle.got_tls.specs.Asking.{Wants}
use Rattle.got_tls.specs.declared.asked_slots.Asked.{Asked}

abbrev pub wants : Asked → Wants
wants a = record { got = a.got; slots = a.listed.slots; objects = a.listed.objects }
