use Rattle.krb_text_laws.proofs.Escapes.{IsGraphic-escape}
use Rattle.krb_text_laws.proofs.text.escape_is_graphic.Goals as goal

pub returns : goal.returns
returns c = IsGraphic-escape
