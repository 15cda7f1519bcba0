use Rattle.std.proofs.Common.{◌≡◌, ℕ, ◌-◌, ◌≤◌, List, length, take, drop}
use Rattle.rows.specs.Texts.{text_to}
use Rattle.validator.specs.Progress.{Further, Validated}
use Rattle.validator.proofs.file.Validator.advance.Given as goal

abbrev pub invariant-loop-place : goal.invariant-loop-place
invariant-loop-place l = record {
  onward : l.at ≤ l.place;
  within : l.at ≤ length l.block → l.place ≤ length l.block;
  unmoved : l.at ≡ l.place → (l.initial.self.number ≡ l.self.number) × (l.initial.cursor.end ≡ l.cursor.end);
  law : (input text : List ℕ) → Validated input text l.initial.self
      → Further input text (take (l.place - l.at) (drop l.at l.block)) (text_to l.initial.bytes l.initial.cursor.end) (text_to l.bytes l.cursor.end) l.self;
}

abbrev pub decreases-loop-place : goal.decreases-loop-place
decreases-loop-place l = length l.block - l.place
