use Rattle.krb_choice_laws.proofs.CapturedSay.{captured-say}
use Rattle.krb_choice_laws.proofs.CellsSay.{cells-say}
use Rattle.krb_choice_laws.proofs.MembersTold.{members-apart}
use Rattle.krb_choice_laws.proofs.MessagesSay.{messages-say, parts-of-messages-say}
use Rattle.krb_choice_laws.proofs.Objects.{inside-says, kinds-say, objects-say, parts-say}
use Rattle.krb_choice_laws.proofs.chosen.cells_say_members.Goals as goal

pub returns-clause-field : goal.returns-clause-field
returns-clause-field c = cells-say

pub returns-clause-object : goal.returns-clause-object
returns-clause-object c = objects-say

pub returns-clause-part : goal.returns-clause-part
returns-clause-part c = parts-say

pub returns-clause-apart : goal.returns-clause-apart
returns-clause-apart c = members-apart

pub returns-clause-message : goal.returns-clause-message
returns-clause-message c = messages-say

pub returns-clause-inside : goal.returns-clause-inside
returns-clause-inside c = parts-of-messages-say

pub returns-clause-capture : goal.returns-clause-capture
returns-clause-capture c = captured-say

pub returns-clause-kind : goal.returns-clause-kind
returns-clause-kind c = kinds-say

pub returns-clause-kinds : goal.returns-clause-kinds
returns-clause-kinds c = inside-says
