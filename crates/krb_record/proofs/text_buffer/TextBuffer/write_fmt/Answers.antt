use Rattle.std.proofs.Common.{◌≡◌, List, ℕ, ◌++◌, Option, Some, None, IfSome}
use Rattle.std.specs.Fmt.{WritesText}
use Rattle.std.proofs.lemmas.Fmt.{contents_after_writes}
use Rattle.krb_record.proofs.text_buffer.TextBuffer.write_fmt.Goals as goal

-- what several calls append is appended
appended : (shown : Option (List ℕ)) (old new : List ℕ) → WritesText (λ before text after. after ≡ before ++ text) old shown new → IfSome shown (λ text. new ≡ old ++ text)
appended None old new writes = tt
appended (Some text) old new writes =
    contents_after_writes (λ (before text after : List ℕ). after ≡ before ++ text) (λ (one : List ℕ). one) (λ before piece after e. e) old text new writes

pub returns-in-Ok : goal.returns-in-Ok
returns-in-Ok g c = appended (g.D.Display.output c.args.value) c.args.self.now c.write.new.self c.in-Ok.ensures.writes
