-- Comments of C, which are blanks.
use Rattle.std.specs.Prelude.{ℕ, suc, ◌==◌, ◌&&◌, if◌then◌else◌, List, [], ◌∷◌, length, Option, Some, None}
use Rattle.krb_der.specs.Octets.{begins_with}
use Rattle.krb_input.specs.declared.text.Comments.{Comments}
use Rattle.krb_input.specs.declared.text.Comments.TheVariants.{Unread, Outside, Opening, Inside, Closing}
use Rattle.krb_input.specs.declared.text.Text.{Text}

-- Where a text is after an octet, which a text follows: `/*` begins a comment, and `*/` ends it.
abbrev pub after : Comments → ℕ → List ℕ → Comments
after Unread octet text = Unread
after Outside octet text = if octet == 0x2F && begins_with 0x2A text then Opening else Outside
after Opening octet text = Inside
after Inside octet text = if octet == 0x2A && begins_with 0x2F text then Closing else Inside
after Closing octet text = Outside

-- an octet between two places, which is a blank in a comment
abbrev pub shown : Comments → Comments → ℕ → ℕ
shown Unread next octet = octet
shown Outside Outside octet = octet
shown before next octet = 0x20

-- a text with blanks in place of the octets of comments
abbrev pub blanked : Comments → List ℕ → List ℕ
blanked place [] = []
blanked place (octet ∷ text) = shown place (after place octet text) octet ∷ blanked (after place octet text) text

-- what is left of a text, as it is read
abbrev pub text_left : Text → List ℕ
text_left text = blanked text.comments text.rest.now

-- how many octets are left from a `/*` on, after one that was the last so far
abbrev pub opened : Comments → (last left : ℕ) → ℕ
opened Opening last left = left
opened place last left = last

-- the fault of a comment that no `*/` ends: at its `/*`
abbrev pub end_of : Comments → (last : ℕ) → Option ℕ
end_of Outside last = None
end_of place last = Some last

abbrev pub unclosed_from : Comments → (last : ℕ) → List ℕ → Option ℕ
unclosed_from place last [] = end_of place last
unclosed_from place last (octet ∷ text) = unclosed_from (after place octet text) (opened (after place octet text) last (suc (length text))) text

abbrev pub unclosed : List ℕ → Option ℕ
unclosed text = unclosed_from Outside 0 text
