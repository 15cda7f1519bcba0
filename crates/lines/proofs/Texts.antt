-- A change as it is written, and as it is read.
use Rattle.std.proofs.Common.{◌≡◌, ℕ, ◌<◌, ◌≤◌, true, false, if◌then◌else◌, nat_lt, List, [], ◌∷◌, length, get_or, Some, None, codes, decimal, Option, sym, refl, ap, ◌∙◌, inl, inr, arith, length-append}
use Rattle.std.proofs.lemmas.Fmt.{digits_decimal, digits_value-decimal, decimal-digits_value, length-decimal-le, decimal_nonempty, first_decimal, decimal_digit}
use Rattle.std.proofs.lemmas.Str.Parse.{IsNumeralModel, numerals_by_value, tells_all_ascii_digits, digits_value_short, digit_at}
use Rattle.std.proofs.lemmas.Slice.Eq.{bytes_eq-Decides}
use Rattle.std.proofs.lemmas.List.{nil_from_length}
use Rattle.std.proofs.lemmas.Bool.{le-leb, cases_Bool, cases_lt, false_from_ne_true}
use Rattle.std.proofs.lemmas.Bool.Decides.{nat_tests}
use Rattle.std.specs.Prelude.{option_and_then}
use Rattle.std.proofs.lemmas.Option.{option_and_then_some}
use Rattle.std.specs.Option.{option_map}
use Rattle.std.specs.Str.Parse.{digits_value}
use Rattle.std.specs.Str.{all_ascii_digits, bytes_eq}
use Rattle.lines.specs.Format.{numeral, argument, fields}
use Rattle.lines.specs.Meaning.{meaning, line_meaning, change_of, reads_as, enter_of, clear_of, clash_of, lapse_of}
use Rattle.lines.specs.Text.{commas, line_text, Writable, ReadsBack, OnlyText, OneLine}
use Rattle.lines.specs.declared.change.Change.{Change}
use Rattle.lines.specs.declared.change.Change.TheVariants.{Enter, Clear, Clash, Lapse}
use Rattle.lines.proofs.Fields.{Plain, plain_by_test, fields_four, commas_fields}

-- a line of more than 64 bytes means nothing
pub long_means_nothing : (line : List ℕ) → 64 < length line → None ≡ meaning line
long_means_nothing line h = grind (arith, nat_tests)

-- nor is it the header
not_header : (line : List ℕ) → 64 < length line → bytes_eq line (codes "op,a,b,c") ≡ false
not_header line h = false_from_ne_true _ (λ e. omega (arith, ap length ((bytes_eq-Decides line (codes "op,a,b,c")).0 e)))

-- whatever its number
pub long_line_means_nothing : (number : ℕ) (line : List ℕ) → 64 < length line → line_meaning number line ≡ None
long_line_means_nothing number line h = let n = not_header line h in rw (← long_means_nothing line h) (grind (arith, nat_tests))

-- our numerals are those of the library
own : IsNumeralModel (λ ds. all_ascii_digits ds ≡ true) (digits_value 10)
own = numerals_by_value (λ ds. all_ascii_digits ds ≡ true) tells_all_ascii_digits

-- only 0 begins with 0
zero_alone : (n : ℕ) → n < 100000 → get_or (decimal n) 0 0 ≡ 48 → length (decimal n) ≡ 1
zero_alone n h z =
    elim (cases_lt 0 n) [
      | inl l ↦ absurd (omega (arith, first_decimal n l (omega arith)))
      | inr l ↦ ap length (decimal_digit n (omega arith))
    ]

-- five digits are read back
pub small_decimal : (n : ℕ) → n < 100000 → numeral (decimal n) ≡ Some n
small_decimal n h = of (decimal n) (digits_decimal own n (omega arith)) (decimal_nonempty n (omega arith)) (length-decimal-le 5 n (omega arith) (omega arith) (omega arith)) (zero_alone n h) (digits_value-decimal own n (omega arith))
  where
    of : (f : List ℕ) → all_ascii_digits f ≡ true → 0 < length f → length f ≤ 5 → (get_or f 0 0 ≡ 48 → length f ≡ 1) → digits_value 10 f ≡ n → numeral f ≡ Some n
    of [] d some short zero v = absurd (omega arith)
    of (b ∷ bs) d some short zero v = grind (arith, nat_tests)

-- and what is read is written so
pub decimal_small : (f : List ℕ) (n : ℕ) → numeral f ≡ Some n → (n < 100000) × (f ≡ decimal n)
decimal_small [] n h = cc
decimal_small (b ∷ bs) n h =
    let digits : all_ascii_digits (b ∷ bs) ≡ true = grind (arith, nat_tests, nil_from_length bs) in
    let short : length (b ∷ bs) ≤ 5 = grind (arith, nat_tests) in
    let zero : b ≡ 48 → length (b ∷ bs) ≡ 1 = λ e. grind (arith, nat_tests) in
    let is : digits_value 10 (b ∷ bs) ≡ n = grind (arith, nat_tests) in
    let v = digits_value_short own (b ∷ bs) 5 digits short in
    (omega (arith, v), sym (decimal-digits_value own (b ∷ bs) digits (omega arith) zero (omega arith)) ∙ ap decimal is)

-- three arguments that are there make the change
three : {A : Type 0} (built : ℕ → ℕ → ℕ → A) (meant : A → Change) (o p q : Option ℕ) (x y z : ℕ) → o ≡ Some x → p ≡ Some y → q ≡ Some z → option_map meant (option_and_then (λ a. option_and_then (λ b. option_and_then (λ c. Some (built a b c)) q) p) o) ≡ Some (meant (built x y z))
three built meant o p q x y z e f g = rw (e, f, g) refl

-- no digit is a comma
plain_decimal : (n : ℕ) → n < 100000 → Plain (decimal n)
plain_decimal n h i l e = let d = digit_at (decimal n) i (own.to (decimal n) (digits_decimal own n (omega arith))) l in omega arith

-- a small number has at most five digits
short_decimal : (n : ℕ) → n < 100000 → length (decimal n) ≤ 5
short_decimal n h = length-decimal-le 5 n (omega arith) (omega arith) (omega arith)

-- four fields without commas are read as they are
means_four : (w a b c : List ℕ) (change : Change) → Plain w → Plain a → Plain b → Plain c → length w ≤ 5 → length a ≤ 5 → length b ≤ 5 → length c ≤ 5 → change_of (w ∷ a ∷ b ∷ c ∷ []) ≡ Some change → meaning (commas (w ∷ a ∷ b ∷ c ∷ [])) ≡ Some change
means_four w a b c change p q r s k l m n e =
    rw (le-leb (length (commas (w ∷ a ∷ b ∷ c ∷ []))) 64 (simp length-append (omega arith)), fields_four w a b c p q r s) e

-- nor has an empty field one
none_plain : Plain []
none_plain = plain_by_test [] refl

pub reads_back : ReadsBack
reads_back (Enter x) h =
    means_four (codes "enter") _ _ _ (Enter x) (plain_by_test (codes "enter") refl) (plain_decimal _ h.0) (plain_decimal _ h.1) (plain_decimal _ h.2) (omega arith) (short_decimal _ h.0) (short_decimal _ h.1) (short_decimal _ h.2)
    (three enter_of Enter _ _ _ _ _ _ (small_decimal _ h.0) (small_decimal _ h.1) (small_decimal _ h.2))
reads_back (Clear x) h =
    means_four (codes "clear") _ [] [] (Clear x) (plain_by_test (codes "clear") refl) (plain_decimal _ h) none_plain none_plain (omega arith) (short_decimal _ h) (omega arith) (omega arith)
    (three clear_of Clear _ _ _ _ 0 0 (small_decimal _ h) refl refl)
reads_back (Clash x) h =
    means_four (codes "clash") _ _ [] (Clash x) (plain_by_test (codes "clash") refl) (plain_decimal _ h.0) (plain_decimal _ h.1) none_plain (omega arith) (short_decimal _ h.0) (short_decimal _ h.1) (omega arith)
    (three clash_of Clash _ _ _ _ _ 0 (small_decimal _ h.0) (small_decimal _ h.1) refl)
reads_back (Lapse x) h =
    means_four (codes "lapse") _ _ [] (Lapse x) (plain_by_test (codes "lapse") refl) (plain_decimal _ h.0) (plain_decimal _ h.1) none_plain (omega arith) (short_decimal _ h.0) (short_decimal _ h.1) (omega arith)
    (three lapse_of Lapse _ _ _ _ _ 0 (small_decimal _ h.0) (small_decimal _ h.1) refl)

-- what a map gives comes from something
map_some : {A B : Type 0} (o : Option A) (f : A → B) (b : B) → option_map f o ≡ Some b → (a : A) × (o ≡ Some a) × (f a ≡ b)
map_some None f b e = cc
map_some (Some a) f b e = (a, refl, cc)

-- an argument that is not to be filled is empty
empty_field : (f : List ℕ) (z : ℕ) → argument false f ≡ Some z → f ≡ []
empty_field f z e = nil_from_length f (grind (arith, nat_tests))

-- the fields, with commas between them, are the change as it is written
abbrev TextOf : List (List ℕ) → Change → Type 0
TextOf fs change = Writable change × (commas fs ≡ line_text change)

-- what a kind reads is written as that kind writes it, if each of its fields is
kind_text : {A : Type 0} (filled : ℕ) (built : ℕ → ℕ → ℕ → A) (meant : A → Change) (w word : List ℕ) (fs : List (List ℕ)) (change : Change)
    → ((a b c : List ℕ) (x y z : ℕ) → argument (nat_lt 0 filled) a ≡ Some x → argument (nat_lt 1 filled) b ≡ Some y → argument (nat_lt 2 filled) c ≡ Some z → TextOf (word ∷ a ∷ b ∷ c ∷ []) (meant (built x y z)))
    → w ≡ word → reads_as filled built meant fs ≡ Some change → TextOf (w ∷ fs) change
kind_text filled built meant w word [] change each e h = cc
kind_text filled built meant w word (a ∷ []) change each e h = cc
kind_text filled built meant w word (a ∷ b ∷ []) change each e h = cc
kind_text filled built meant w word (a ∷ b ∷ c ∷ []) change each e h =
    let r = map_some _ _ _ h in
    option_and_then_some _ _ _ r.1 (λ x p s.
    option_and_then_some _ _ _ s (λ y q t.
    option_and_then_some _ _ _ t (λ z l u. let m : meant (built x y z) ≡ change = cc (r.2, u) in rw (e, ← m) (each a b c x y z p q l))))
kind_text filled built meant w word (a ∷ b ∷ c ∷ d ∷ fs) change each e h = cc

-- three numbers
enter_text : (w : List ℕ) (fs : List (List ℕ)) (change : Change) → w ≡ codes "enter" → reads_as 3 enter_of Enter fs ≡ Some change → TextOf (w ∷ fs) change
enter_text w fs change = kind_text 3 enter_of Enter w (codes "enter") fs change (λ a b c x y z p q r.
    let s = decimal_small a x p in
    let t = decimal_small b y q in
    let u = decimal_small c z r in
    ((s.0, t.0, u.0), rw (s.1, t.1, u.1) refl))

-- one number, and two fields empty
clear_text : (w : List ℕ) (fs : List (List ℕ)) (change : Change) → w ≡ codes "clear" → reads_as 1 clear_of Clear fs ≡ Some change → TextOf (w ∷ fs) change
clear_text w fs change = kind_text 1 clear_of Clear w (codes "clear") fs change (λ a b c x y z p q r.
    let s = decimal_small a x p in
    (s.0, rw (s.1, empty_field b y q, empty_field c z r) refl))

-- two numbers, and the last field empty
pair_text : (word a b c : List ℕ) (x y z : ℕ) → argument true a ≡ Some x → argument true b ≡ Some y → argument false c ≡ Some z → ((x < 100000) × (y < 100000)) × (commas (word ∷ a ∷ b ∷ c ∷ []) ≡ commas (word ∷ decimal x ∷ decimal y ∷ [] ∷ []))
pair_text word a b c x y z p q r =
    let s = decimal_small a x p in
    let t = decimal_small b y q in
    ((s.0, t.0), rw (s.1, t.1, empty_field c z r) refl)

-- one word more to try
word_text : (w word : List ℕ) (o p : Option Change) (change : Change) (T : Type 0) → (w ≡ word → o ≡ Some change → T) → (p ≡ Some change → T) → (if bytes_eq w word then o else p) ≡ Some change → T
word_text w word o p change T this others e =
    elim (cases_Bool (bytes_eq w word)) [
      | inl s ↦ this ((bytes_eq-Decides w word).0 s) (rw s at e)
      | inr s ↦ others (rw s at e)
    ]

-- fields that mean a change are that change as it is written
fields_text : (fs : List (List ℕ)) (change : Change) → change_of fs ≡ Some change → TextOf fs change
fields_text [] change e = cc
fields_text (w ∷ fs) change e =
    word_text w (codes "enter") _ _ change _ (enter_text w fs change)
    (word_text w (codes "clear") _ _ change _ (clear_text w fs change)
    (word_text w (codes "clash") _ _ change _ (kind_text 2 clash_of Clash w _ fs change (pair_text (codes "clash")))
    (word_text w (codes "lapse") _ _ change _ (kind_text 2 lapse_of Lapse w _ fs change (pair_text (codes "lapse"))) (λ n. cc)))) e

pub only_text : OnlyText
only_text line change e =
    let t = fields_text (fields line) change (grind (arith, nat_tests)) in
    (t.0, sym (commas_fields line) ∙ t.1)

pub one_line : OneLine
one_line line other change e f = (only_text line change e).1 ∙ sym (only_text other change f).1
