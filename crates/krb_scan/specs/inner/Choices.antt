-- The item that begins.
use Rattle.std.specs.Prelude.{ℕ, ◌≡◌, ◌==◌, Option, Some, None}
use Rattle.krb_der.specs.Octets.{when}
use Rattle.krb_msg.specs.Term.{tag_of}
use Rattle.krb_msg.specs.Nodes.{term_at}
use Rattle.krb_msg.specs.Table.{IsNode}
use Rattle.krb_scan.specs.Scan as scan
use Rattle.krb_scan.specs.Expectations.{IsKnown, expected_of}
use Rattle.krb_scan.specs.inner.Machine.{Pick, pick}
use Rattle.krb_scan.specs.declared.expected.Expected.{Expected}
use Rattle.krb_scan.specs.declared.expected.Picked.{Picked}

-- the item of a node's term, and what is expected after it
pub record IsItem (picked : Picked) (choice : Pick) : Type 0 where
  pub known : IsNode picked.node
  pub leads : IsKnown picked.left
  pub is : choice ≡ Some (term_at picked.node, expected_of picked.left)

abbrev pub AreSame : Option Picked → Pick → Type 0
AreSame None choice = choice ≡ None
AreSame (Some picked) choice = IsItem picked choice

-- the item that an identifier octet begins
abbrev pub IsChoice : ℕ → scan.Expected → Option Picked → Type 0
IsChoice octet expected result = AreSame result (pick octet expected)

-- that of a node's term, if the octet is its tag
abbrev pub IsPick : ℕ → ℕ → Expected → Option Picked → Type 0
IsPick octet node left result = AreSame result (when (octet == tag_of (term_at node)) (λ _. Some (term_at node, expected_of left)) (λ _. None))
