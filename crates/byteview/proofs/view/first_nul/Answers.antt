use Rattle.byteview.proofs.Texts.{first_nul_is}
use Rattle.byteview.proofs.view.first_nul.Goals as goal

pub returns : goal.returns
returns c = first_nul_is c.args.bytes.now c.memchr.result c.memchr.ensures
