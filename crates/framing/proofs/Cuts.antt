-- How an input is cut.
use Rattle.std.proofs.Common.{◌≡◌, ◌≢◌, ◌==◌, ℕ, true, not, ◌&&◌, List, [], ◌∷◌, ◌++◌, sym, refl, ◌∙◌, inl, inr, arith}
use Rattle.std.specs.List.{flat_map, AllByRecursion}
use Rattle.std.proofs.lemmas.List.{append_assoc, append-nil, flat_map_more}
use Rattle.std.proofs.lemmas.Bool.{cases_Bool}
use Rattle.std.proofs.lemmas.Bool.Decides.{nat_tests}
use Rattle.framing.specs.Buffer.{ends_in_cr}
use Rattle.framing.specs.Lines.{Cut, LineEnds, LineGoesOn, OneCut, SomeCut, UnbrokenTells, line_end, unbroken}

-- What stands behind a byte of an unbroken line is unbroken.
unbroken_tail : (x : ℕ) (xs : List ℕ) → unbroken (x ∷ xs) ≡ true → unbroken xs ≡ true
unbroken_tail x [] u = refl
unbroken_tail x (y ∷ xs) u = grind arith

-- Whether a byte more breaks the line.
pub unbroken_push : (xs : List ℕ) (b : ℕ) → unbroken (xs ++ (b ∷ [])) ≡ (unbroken xs && not (ends_in_cr xs && b == 10))
unbroken_push [] b = grind arith
unbroken_push (x ∷ []) b = grind arith
unbroken_push (x ∷ y ∷ xs) b = grind (arith, unbroken_push (y ∷ xs) b)

-- And so is what stands before one.
pub unbroken_front : (xs : List ℕ) (b : ℕ) → unbroken (xs ++ (b ∷ [])) ≡ true → unbroken xs ≡ true
unbroken_front xs b u = let p = unbroken_push xs b in grind arith

-- No CRLF is inside an unbroken line.
none_inside : (xs : List ℕ) → unbroken xs ≡ true → (before after : List ℕ) → xs ≢ before ++ (line_end ++ after)
none_inside xs u [] after e = let w = rw e at u in grind arith
none_inside [] u (z ∷ before) after e = cc
none_inside (x ∷ xs) u (z ∷ before) after e = none_inside xs (unbroken_tail x xs u) before after (cc)

-- And what holds none is unbroken.
all_inside : (xs : List ℕ) → ((before after : List ℕ) → xs ≢ before ++ (line_end ++ after)) → unbroken xs ≡ true
all_inside [] n = refl
all_inside (x ∷ []) n = refl
all_inside (x ∷ y ∷ xs) n =
    let rest = all_inside (y ∷ xs) (λ before after e. n (x ∷ before) after (cc)) in
    let here : x ≡ 13 → y ≢ 10 = λ p q. n [] xs (cc) in
    grind (arith, nat_tests)

pub unbroken_tells : UnbrokenTells
unbroken_tells xs = (none_inside xs, all_inside xs)

-- A line's end is not inside a line that has bytes before it.
end_first : (b : ℕ) (m x y : List ℕ) → unbroken (b ∷ m) ≡ true → line_end ++ x ≢ (b ∷ m) ++ (line_end ++ y)
end_first b [] x y u e = cc
end_first b (c ∷ m) x y u e =
    let p : b ≡ 13 = cc in
    let q : c ≡ 10 = cc in
    grind (arith, nat_tests)

-- Two lines before the same bytes are one.
one_line : (l m x y : List ℕ) → unbroken l ≡ true → unbroken m ≡ true → l ++ (line_end ++ x) ≡ m ++ (line_end ++ y) → (l ≡ m) × (x ≡ y)
one_line [] [] x y u v e = (refl, cc)
one_line [] (b ∷ m) x y u v e = absurd (end_first b m x y v e)
one_line (a ∷ l) [] x y u v e = absurd (end_first a l y x u (sym e))
one_line (a ∷ l) (b ∷ m) x y u v e =
    let r = one_line l m x y (unbroken_tail a l u) (unbroken_tail b m v) (cc) in (cc, r.1)

abbrev ended : List ℕ → List ℕ
ended line = line ++ line_end

abbrev Unbroken : List ℕ → Type 0
Unbroken line = unbroken line ≡ true

-- Two cuts of the same bytes are one.
same_lines : (ls ms : List (List ℕ)) (r s : List ℕ) → AllByRecursion Unbroken ls → AllByRecursion Unbroken ms → Unbroken r → Unbroken s → flat_map ended ls ++ r ≡ flat_map ended ms ++ s → (ls ≡ ms) × (r ≡ s)
same_lines [] [] r s a b u v e = (refl, e)
same_lines [] (m ∷ ms) r s a b u v e = absurd (none_inside r u m _ (simp append_assoc at e))
same_lines (l ∷ ls) [] r s a b u v e = absurd (none_inside s v l _ (simp append_assoc at (sym e)))
same_lines (l ∷ ls) (m ∷ ms) r s a b u v e =
    let o = one_line l m _ _ a.0 b.0 (simp append_assoc at e) in
    let t = same_lines ls ms r s a.1 b.1 u v o.1 in
    (cc, t.1)

pub one_cut : OneCut
one_cut input ls ms r s c d = same_lines ls ms r s c.lines_unbroken d.lines_unbroken c.rest_unbroken d.rest_unbroken (sym c.whole ∙ d.whole)

-- One line more.
unbroken_lines : (ls : List (List ℕ)) (body : List ℕ) → AllByRecursion Unbroken ls → Unbroken body → AllByRecursion Unbroken (ls ++ (body ∷ []))
unbroken_lines [] body a u = (u, tt)
unbroken_lines (l ∷ ls) body a u = (a.0, unbroken_lines ls body a.1 u)

pub line_ends : LineEnds
line_ends input piece ls r body c u e = record {
  whole = rw (c.whole, append_assoc, e, append-nil) (flat_map_more ended [] ls body);
  lines_unbroken = unbroken_lines ls body c.lines_unbroken u;
  rest_unbroken = refl;
}

pub line_goes_on : LineGoesOn
line_goes_on input piece ls r c u = record { whole = rw (c.whole, append_assoc) refl; lines_unbroken = c.lines_unbroken; rest_unbroken = u }

-- What ends in CR is something and a CR.
before_cr : (xs : List ℕ) → ends_in_cr xs ≡ true → (ys : List ℕ) × (xs ≡ ys ++ (13 ∷ []))
before_cr [] e = absurd (cc)
before_cr (x ∷ []) e = let h : x ≡ 13 = grind (arith, nat_tests) in ([], cc)
before_cr (x ∷ y ∷ xs) e = let p = before_cr (y ∷ xs) e in (x ∷ p.0, cc)

abbrev CutSomehow : List ℕ → Type 0
CutSomehow input = (lines : List (List ℕ)) × (rest : List ℕ) × Cut input lines rest

-- A byte more is cut too.
cut_byte : (input : List ℕ) (b : ℕ) → CutSomehow input → CutSomehow (input ++ (b ∷ []))
cut_byte input b s =
    let u = s.2.rest_unbroken in
    elim (cases_Bool (ends_in_cr s.1 && b == 10)) [
      | inl e ↦
          let lf : b ≡ 10 = grind (arith, nat_tests) in
          let p = before_cr s.1 (grind arith) in
          let is = append_assoc p.0 (13 ∷ []) (b ∷ []) in
          (s.0 ++ (p.0 ∷ []), [], line_ends input (b ∷ []) s.0 s.1 p.0 s.2 (unbroken_front p.0 13 (rw p.1 at u)) (cc))
      | inr e ↦ let p = unbroken_push s.1 b in (s.0, s.1 ++ (b ∷ []), line_goes_on input (b ∷ []) s.0 s.1 s.2 (grind arith))
    ]

-- And what comes in behind, byte by byte.
cut_rest : (done left : List ℕ) → CutSomehow done → CutSomehow (done ++ left)
cut_rest done [] s = rw append-nil s
cut_rest done (b ∷ left) s = rw (append_assoc done (b ∷ []) left) at (cut_rest (done ++ (b ∷ [])) left (cut_byte done b s))

pub some_cut : SomeCut
some_cut input = cut_rest [] input ([], [], record { whole = refl; lines_unbroken = tt; rest_unbroken = refl })
