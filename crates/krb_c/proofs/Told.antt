-- Two texts that are copied out.
use Rattle.std.proofs.Common.{◌≡◌, ℕ, Result, Ok, Err, IfOk, inl, inr}
use Rattle.std.specs.Prelude.{List, MatchResult}
use Rattle.krb_run.specs.declared.run.RunEnd.{RunEnd}
use Rattle.krb_run.specs.declared.run.RunFault.{RunFault}
use Rattle.krb_c.specs.Written.{IsIn, IsKept, IsToldOf, Room, answer_of}
use Rattle.krb_c.specs.declared.writing.Told.{Told}

pub told-of : (Makes : (text said : List ℕ) → RunEnd → Type 0) (Made : Told → Type 0) (made : Result Told RunFault) (text said : Room) (answer : ℕ) → ((m : Told) → Made m → Makes m.text.items m.said.items m.end) → IfOk made Made
    → MatchResult made (λ m. (IsIn m.text.items text × IsIn m.said.items said) × (answer ≡ answer_of m.end)) (λ e. IsKept answer text × IsKept answer said) → IsToldOf Makes text said answer
told-of Makes Made (Ok m) text said answer says is wrote =
    inr (record { made_text = m.text.items; made_said = m.said.items; end = m.end; made = says m is; copied = wrote.0.0; told = wrote.0.1; answered = wrote.1 })
told-of Makes Made (Err e) text said answer says is wrote = inl wrote
