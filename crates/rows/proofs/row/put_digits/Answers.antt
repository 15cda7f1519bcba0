use Rattle.std.proofs.Common.{◌≡◌, ℕ, ◌+◌, List, ◌++◌, length, take, drop, sym, ◌∙◌, arith, rules, refl}
use Rattle.std.proofs.lemmas.List.{take-append-drop}
use Rattle.rows.specs.Texts.{written}
use Rattle.rows.proofs.row.put_digits.Goals as goal

-- bytes that are as before up to `e`, and `p` with the rest as before from there on
in_two : (bs cs p : List ℕ) (e : ℕ) → take e cs ≡ take e bs → drop e cs ≡ p ++ drop (e + length p) bs → cs ≡ written bs e p
unfolding written
in_two bs cs p e front back = sym (take-append-drop e cs) ∙ rw (front, back) refl

pub returns : goal.returns
returns c =
    let f : c.from.result ≡ c.args.n = search rules in
    let w = rw f at c.write_digits.ensures in
    let s : c.write_digits.result ≡ c.args.end = omega arith in
    let l = c.requires.len in
    let back = rw (s, l) at w.written in
    let front = rw s at w.before in
    record { fits = omega arith; bytes = in_two _ _ _ _ front back; end = rw l refl }
