-- The holders that a list of files gives, and what is left of it.
use Rattle.std.proofs.Common.{◌≡◌, ◌∙◌, ℕ, nat_eq, Bool, true, false, cond, not, List, [], ◌∷◌, filter, Option, Some, None, refl, sym, ap}
use Rattle.std.proofs.lemmas.Bool.{eqb-true, eq-eqb}
use Rattle.std.specs.Cmp.{nat_cmp_total, nat_eq_equiv, unsigned_ties}
use Rattle.std.specs.FinMap.{FinMap, find, get, insert, remove, from_entries, get-from_entries, get-insert, get-remove, same_map, nat_cmp-IsAntisymmetric}
use Rattle.std.specs.Ordering.{nat_cmp, eq_by_cmp}
use Rattle.lock_model.specs.Holders.{holder_in, Once, freed_of}

tied : (q k : ℕ) → eq_by_cmp nat_cmp q k ≡ nat_eq k q
tied q k = sym (unsigned_ties q k) ∙ nat_eq_equiv.symm q k

-- ---- numbers of files

same_file : (a b c : ℕ) → nat_eq a b ≡ true → nat_eq a c ≡ nat_eq b c
same_file a b c e = ap (λ (n : ℕ). nat_eq n c) (eqb-true a b e)

other_file : (a b c : ℕ) → nat_eq a b ≡ false → nat_eq a c ≡ true → (q : Bool) → nat_eq b c ≡ q → q ≡ false
other_file a b c e k true g = let clash : true ≡ false = sym (eq-eqb a b (eqb-true a c k ∙ sym (eqb-true b c g))) ∙ e in absurd cc
other_file a b c e k false g = refl

module _ {H : Type 0} where
  abbrev none : Option H
  none = None

  finds : (held : List (ℕ × H)) (file : ℕ) → find nat_cmp file held ≡ holder_in held file
  finds [] file = refl
  finds (x ∷ xs) file = ap (λ (b : Bool). cond b (Some x.1) (find nat_cmp file xs)) (tied file x.0) ∙ ap (λ (o : Option H). cond (nat_eq x.0 file) (Some x.1) o) (finds xs file)

  pub get_of : (held : List (ℕ × H)) (file : ℕ) → get (from_entries {R = nat_cmp} held) file ≡ holder_in held file
  get_of held file = get-from_entries nat_cmp_total held file ∙ finds held file

  at_cond : (k : Bool) (xs ys : List (ℕ × H)) (file : ℕ) → holder_in (cond k xs ys) file ≡ cond k (holder_in xs file) (holder_in ys file)
  at_cond true xs ys file = refl
  at_cond false xs ys file = refl

  -- ---- no file stands there twice

  none_by : (k q : Bool) (holder : H) (r s : Option H) → (r ≡ None → s ≡ None) → cond q (Some holder) r ≡ None → cond k (cond q (Some holder) s) s ≡ None
  none_by k true holder r s h e = let clash : Some holder ≡ None = e in absurd cc
  none_by true false holder r s h e = h e
  none_by false false holder r s h e = h e

  none_left : (keep : (ℕ × H) → Bool) (held : List (ℕ × H)) (file : ℕ) → holder_in held file ≡ None → holder_in (filter keep held) file ≡ None
  none_left keep [] file e = refl
  none_left keep (x ∷ xs) file e = at_cond (keep x) (x ∷ filter keep xs) (filter keep xs) file ∙ none_by (keep x) (nat_eq x.0 file) x.1 (holder_in xs file) (holder_in (filter keep xs) file) (none_left keep xs file) e

  once_by : (k : Bool) (x : ℕ × H) (xs : List (ℕ × H)) → holder_in xs x.0 ≡ None → Once xs → Once (cond k (x ∷ xs) xs)
  once_by true x xs e o = (e, o)
  once_by false x xs e o = o

  pub Once-filter : (keep : (ℕ × H) → Bool) (held : List (ℕ × H)) → Once held → Once (filter keep held)
  Once-filter keep [] o = tt
  Once-filter keep (x ∷ xs) o = once_by (keep x) x (filter keep xs) (none_left keep xs x.0 o.0) (Once-filter keep xs o.1)

  -- ---- a file that was freed

  gone_by : (a q f : Bool) (holder : H) (r s : Option H) → (a ≡ true → q ≡ f) → (a ≡ false → q ≡ true → f ≡ false) → s ≡ cond f None r → cond (not a) (cond q (Some holder) s) s ≡ cond f None (cond q (Some holder) r)
  gone_by true true true holder r s h n e = e
  gone_by true false false holder r s h n e = e
  gone_by true true false holder r s h n e = let clash : true ≡ false = h refl in absurd cc
  gone_by true false true holder r s h n e = let clash : false ≡ true = h refl in absurd cc
  gone_by false true true holder r s h n e = let clash : true ≡ false = n refl refl in absurd cc
  gone_by false true false holder r s h n e = refl
  gone_by false false f holder r s h n e = e

  nobody : (b : Bool) → none ≡ cond b none none
  nobody true = refl
  nobody false = refl

  without : (file : ℕ) (held : List (ℕ × H)) (other : ℕ) → holder_in (filter (λ x. not (nat_eq x.0 file)) held) other ≡ cond (nat_eq file other) None (holder_in held other)
  without file [] other = nobody (nat_eq file other)
  without file (x ∷ xs) other =
      let left = filter (λ (x : ℕ × H). not (nat_eq x.0 file)) xs in
      at_cond (not (nat_eq x.0 file)) (x ∷ left) left other
      ∙ gone_by (nat_eq x.0 file) (nat_eq x.0 other) (nat_eq file other) x.1 (holder_in xs other) (holder_in left other) (same_file x.0 file other) (λ e k. other_file x.0 file other e k (nat_eq file other) refl) (without file xs other)

  pub removed : (file : ℕ) (held : List (ℕ × H)) → from_entries {R = nat_cmp} (filter (λ x. not (nat_eq x.0 file)) held) ≡ remove (from_entries held) file
  removed file held = same_map nat_cmp_total nat_cmp-IsAntisymmetric _ _ (λ q.
      get_of (filter (λ x. not (nat_eq x.0 file)) held) q
      ∙ without file held q
      ∙ ap (λ (o : Option H). cond (nat_eq file q) None o) (sym (get_of held q))
      ∙ ap (λ (b : Bool). cond b None (get {R = nat_cmp} (from_entries held) q)) (sym (tied q file))
      ∙ sym (get-remove nat_cmp_total (from_entries held) file q))

  -- ---- holders that were freed

  freed_by : (these : H → Bool) (t q : Bool) (holder : H) (r s : Option H) → these holder ≡ t → s ≡ freed_of these r → (q ≡ true → s ≡ None) → cond (not t) (cond q (Some holder) s) s ≡ freed_of these (cond q (Some holder) r)
  freed_by these true true holder r s e m n = n refl ∙ ap (λ (b : Bool). cond b None (Some holder)) (sym e)
  freed_by these true false holder r s e m n = m
  freed_by these false true holder r s e m n = ap (λ (b : Bool). cond b None (Some holder)) (sym e)
  freed_by these false false holder r s e m n = m

  freed_in : (these : H → Bool) (held : List (ℕ × H)) (file : ℕ) → Once held → holder_in (filter (λ x. not (these x.1)) held) file ≡ freed_of these (holder_in held file)
  freed_in these [] file o = refl
  freed_in these (x ∷ xs) file o =
      let left = filter (λ (x : ℕ × H). not (these x.1)) xs in
      at_cond (not (these x.1)) (x ∷ left) left file
      ∙ freed_by these (these x.1) (nat_eq x.0 file) x.1 (holder_in xs file) (holder_in left file) refl (freed_in these xs file o.1)
      (λ k. none_left (λ x. not (these x.1)) xs file (ap (holder_in xs) (sym (eqb-true x.0 file k)) ∙ o.0))

  pub freed : (these : H → Bool) (held : List (ℕ × H)) (file : ℕ) → Once held → get (from_entries {R = nat_cmp} (filter (λ x. not (these x.1)) held)) file ≡ freed_of these (get (from_entries {R = nat_cmp} held) file)
  freed these held file o = get_of (filter (λ x. not (these x.1)) held) file ∙ freed_in these held file o ∙ ap (freed_of these) (sym (get_of held file))

  -- ---- a holder that has the file already

  put_again : (b : Bool) (holder : H) (o : Option H) → (b ≡ true → o ≡ Some holder) → o ≡ cond b (Some holder) o
  put_again true holder o h = h refl
  put_again false holder o h = refl

  pub again : (held : FinMap nat_cmp H) (file : ℕ) (holder : H) → get held file ≡ Some holder → held ≡ insert held file holder
  again held file holder e = same_map nat_cmp_total nat_cmp-IsAntisymmetric held (insert held file holder) (λ q.
      put_again (eq_by_cmp nat_cmp q file) holder (get held q) (λ k. let same : file ≡ q = eqb-true file q (sym (tied q file) ∙ k) in ap (get held) (sym same) ∙ e)
      ∙ sym (get-insert nat_cmp_total held file holder q))
