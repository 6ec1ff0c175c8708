-- The groups of puts, as puts begin, and what a test of the puts of one of them tells of all.
use Rattle.std.proofs.Common.{◌≡◌, ◌<◌, ℕ, zero, suc, Bool, true, false, cond, not, ◌&&◌, ◌||◌, List, [], ◌∷◌, ◌++◌, length, get_or, set, reverse, Option, None, Some, Result, Global, refl, sym, ap, ap₂, ◌∙◌, arith}
use Rattle.std.specs.Bool.{Decides}
use Rattle.std.specs.Prelude.{option_map, unwrap_or, OnOk, OnErr}
use Rattle.std.specs.declared.vec.Vec.{Vec}
use Rattle.std.specs.Map.{lookup}
use Rattle.std.specs.List.{list_all, list_any, position}
use Rattle.std.proofs.lemmas.Bool.{or_right}
use Rattle.std.proofs.lemmas.Bool.Decides.{Decides-eqb, Decides-and}
use Rattle.std.proofs.lemmas.Result.{on_ok_weaker, on_err_weaker}
use Rattle.std.proofs.lemmas.List.Folds.{list_any-append}
use Rattle.std.proofs.lemmas.List.Sorted.{list_any-IsPermutation, IsPermutation-reverse}
use Rattle.std.proofs.lemmas.List.Quantifiers.{position-Some}
use Rattle.cache_types.specs.declared.key.Key.{Key}
use Rattle.cache_types.specs.declared.seat.Who.{Who}
use Rattle.seat_rules.specs.Address.{Address}
use Rattle.log_summary.specs.Summary.{BegunPut, OpenEvict, read_for}
use Rattle.rule_cases.specs.Cases.{is_put_at}
use Rattle.rule_checks.proofs.Deciding.{same_key_decides, same_address_decides}
use Rattle.rule_checks.specs.Tests.{same_address, same_blob, same_key, is_item_of}
use Rattle.world_log.specs.Grouping.{put_under, is_put_under, any_put, is_place, records_under, AreGrouped, GainsThere}
use Rattle.world_log.specs.Ledgers.{keeps_at, keeps_put}
use Rattle.world_log.specs.declared.groups.PutGroups.{PutGroups}
use Rattle.world_log.specs.declared.groups.PutPlace.{PutPlace}
use Rattle.world_log.specs.declared.puts_at.PutsAt.{PutsAt}

-- ---- some of a list

or_swap : (a b c : Bool) → ((a || c) || b) ≡ ((a || b) || c)
or_swap true b c = refl
or_swap false true true = refl
or_swap false true false = refl
or_swap false false true = refl
or_swap false false false = refl

or_assoc : (a b c : Bool) → (a || (b || c)) ≡ ((a || b) || c)
or_assoc true b c = refl
or_assoc false b c = refl

none_more : (b : Bool) → b ≡ (b || false)
none_more true = refl
none_more false = refl

-- two tests that say the same of each
pub any_alike : {X : Type 0} (f g : X → Bool) → ((x : X) → f x ≡ g x) → (xs : List X) → list_any f xs ≡ list_any g xs
any_alike f g same [] = refl
any_alike f g same (x ∷ xs) = ap₂ (λ (a b : Bool). a || b) (same x) (any_alike f g same xs)

in_any_order : {X : Type 0} (f : X → Bool) (xs : List X) → list_any f xs ≡ list_any f (reverse xs)
in_any_order f xs = list_any-IsPermutation f xs (reverse xs) (IsPermutation-reverse xs)

-- one of those after the first, looked through from their end
pub is_later : {X : Type 0} (f : X → Bool) (first : X) (xs : List X) (r : Bool) → r ≡ list_any f (reverse xs) → r ≡ true → r ≡ (f first || list_any f xs)
is_later f first xs r is found = found ∙ sym (or_right (f first) (list_any f xs) (in_any_order f xs ∙ sym is ∙ found))

-- none of them, so the first or none
pub is_first : {X : Type 0} (f : X → Bool) (first : X) (xs : List X) (r : Bool) → r ≡ list_any f (reverse xs) → r ≡ false → f first ≡ (f first || list_any f xs)
is_first f first xs r is none = none_more (f first) ∙ ap (λ (b : Bool). f first || b) (sym (in_any_order f xs ∙ sym is ∙ none))

-- one that says the same of all
any_settled : {X : Type 0} (f : X → Bool) (c : Bool) → ((x : X) → f x ≡ c) → (xs : List X) → (c || list_any f xs) ≡ c
any_settled f true is xs = refl
any_settled f false is [] = refl
any_settled f false is (x ∷ xs) = ap (λ (b : Bool). b || list_any f xs) (is x) ∙ any_settled f false is xs

-- another element in the place of one
any_set : {X : Type 0} (f : X → Bool) (more : Bool) (xs : List X) (i : ℕ) (x y : X) → i < length xs → get_or xs i x ≡ x → f y ≡ (f x || more) → list_any f (set xs i y) ≡ (list_any f xs || more)
any_set f more [] i x y less is new = absurd (omega (arith, less))
any_set f more (z ∷ xs) zero x y less is new =
    ap (λ (b : Bool). b || list_any f xs) (new ∙ ap (λ (w : _). f w || more) (sym is)) ∙ or_swap (f z) (list_any f xs) more
any_set f more (z ∷ xs) (suc i) x y less is new =
    ap (λ (b : Bool). f z || b) (any_set f more xs i x y (omega (arith, less)) is new) ∙ or_assoc (f z) (list_any f xs) more

-- ---- the puts under one address

-- a test that says the same of each of them
pub any_constant : (test : BegunPut → Bool) (c : Bool) (r : PutsAt) → ((blob : List ℕ) → test (put_under r.at blob) ≡ c) → any_put test r ≡ c
any_constant test c r is = ap (λ (b : Bool). b || list_any (λ blob. test (put_under r.at blob)) r.later.items) (is r.first) ∙ any_settled (λ blob. test (put_under r.at blob)) c is r.later.items

-- two that do of each
pub any_same : (test other : BegunPut → Bool) (r : PutsAt) → ((blob : List ℕ) → test (put_under r.at blob) ≡ other (put_under r.at blob)) → any_put test r ≡ any_put other r
any_same test other r same = ap₂ (λ (a b : Bool). a || b) (same r.first) (any_alike (λ blob. test (put_under r.at blob)) (λ blob. other (put_under r.at blob)) same r.later.items)

-- ---- one put more in a group

pub place_within : (test : PutsAt → Bool) (records : List PutsAt) (i : ℕ) → position test records ≡ Some i → i < length records
place_within test [] i at = absurd cc
place_within test (r ∷ records) i at = (position-Some test (r ∷ records) i r at).0

-- in the record that is there
pub gains_in_place : (old : List PutsAt) (i : ℕ) (x y : PutsAt) (at : Address) (blob : List ℕ) → position (λ r. same_address r.at at) old ≡ Some i → get_or old i x ≡ x
    → ((test : BegunPut → Bool) → any_put test y ≡ (any_put test x || test (put_under x.at blob))) → GainsThere old (set old i y) (put_under at blob ∷ [])
gains_in_place old i x y at blob found is more test =
    let there = position-Some (λ r. same_address r.at at) old i x found in
    let same : x.at ≡ at = (same_address_decides x.at at).0 (ap (λ (r : PutsAt). same_address r.at at) (sym is) ∙ there.1) in
    any_set (any_put test) (list_any test (put_under at blob ∷ [])) old i x y there.0 is
    (more test ∙ ap (λ (b : Bool). any_put test x || b) (ap (λ (a : Address). test (put_under a blob)) same ∙ none_more (test (put_under at blob))))

-- in none
pub gains_still : (old : List PutsAt) (i : ℕ) (x y : PutsAt) → i < length old → get_or old i x ≡ x → ((test : BegunPut → Bool) → any_put test y ≡ any_put test x) → GainsThere old (set old i y) []
gains_still old i x y less is same test = any_set (any_put test) false old i x y less is (same test ∙ none_more (any_put test x))

-- in a new one
pub gains_record : (old : List PutsAt) (y : PutsAt) (p : BegunPut) → ((test : BegunPut → Bool) → any_put test y ≡ test p) → GainsThere old (old ++ y ∷ []) (p ∷ [])
gains_record old y p is test = list_any-append (any_put test) old (y ∷ []) ∙ ap (λ (b : Bool). list_any (any_put test) old || (b || false)) (is test)

-- ---- one put more among the groups

same_entry_decides : (root : ℕ) (key : Key) (p : BegunPut) → Decides (is_put_under root key p) ((p.at.store.root ≡ root) × (p.at.key ≡ key))
same_entry_decides root key p = Decides-and _ _ (Decides-eqb p.at.store.root root) (same_key_decides p.at.key key)

-- the records of a root and a key among the entries of a map
abbrev records_in : ℕ → Key → List (PutPlace × Vec PutsAt Global) → List PutsAt
records_in root key entries = unwrap_or (option_map (λ records. records.items) (lookup (is_place root key) entries)) []

-- these hold at the place of a put what is there after, and elsewhere what the groups do
abbrev IsWritten : PutGroups → BegunPut → Vec PutsAt Global → List (PutPlace × Vec PutsAt Global) → Type 0
IsWritten old p after new = (root : ℕ) (key : Key) → lookup (is_place root key) new ≡ cond (is_put_under root key p) (Some after) (lookup (is_place root key) old.by_place.entries)

-- what the puts before were in the groups, these with more are in the entries
abbrev IsGained : PutGroups → List (PutPlace × Vec PutsAt Global) → List BegunPut → Type 0
IsGained old new more = (puts : List BegunPut) → AreGrouped old puts → (root : ℕ) (key : Key) (test : BegunPut → Bool) → list_any (any_put test) (records_in root key new) ≡ list_any (λ p. is_put_under root key p && test p) (puts ++ more)

written : (old new : Option (Vec PutsAt Global)) (b : Bool) (after : Vec PutsAt Global) → new ≡ cond b (Some after) old
    → unwrap_or (option_map (λ v. v.items) new) [] ≡ cond b after.items (unwrap_or (option_map (λ v. v.items) old) [])
written old new true after is = ap (λ (o : _). unwrap_or (option_map (λ v. v.items) o) []) is
written old new false after is = ap (λ (o : _). unwrap_or (option_map (λ v. v.items) o) []) is

-- what is gained at the place of a put is gained among all
gains : (old : PutGroups) (new : List (PutPlace × Vec PutsAt Global)) (p : BegunPut) (before after : Vec PutsAt Global) (more : List BegunPut) → IsWritten old p after new
    → before.items ≡ records_under p.at.store.root p.at.key old → GainsThere before.items after.items more
    → ((root : ℕ) (key : Key) (test : BegunPut → Bool) → list_any (λ q. is_put_under root key q && test q) more ≡ (is_put_under root key p && list_any test more))
    → IsGained old new more
gains old new p before after more now was there under puts is root key test =
    ap (list_any (any_put test)) (written (lookup (is_place root key) old.by_place.entries) (lookup (is_place root key) new) (is_put_under root key p) after (now root key))
    ∙ one (is_put_under root key p) refl
    ∙ ap₂ (λ (a b : Bool). a || b) (is root key test) (sym (under root key test))
    ∙ sym (list_any-append (λ q. is_put_under root key q && test q) puts more)
  where
    one : (b : Bool) → is_put_under root key p ≡ b → list_any (any_put test) (cond b after.items (records_under root key old)) ≡ (list_any (any_put test) (records_under root key old) || (b && list_any test more))
    one true e =
        let same = (same_entry_decides root key p).0 e in
        there test ∙ ap (λ (l : List PutsAt). list_any (any_put test) l || list_any test more) (was ∙ ap₂ (λ (a : ℕ) (k : Key). records_under a k old) same.0 same.1)
    one false e = none_more (list_any (any_put test) (records_under root key old))

pub gains_one : {E : Type 0} (old : PutGroups) (new : List (PutPlace × Vec PutsAt Global)) (p : BegunPut) (before after : Vec PutsAt Global) (r : Result (Unit {0}) E) → OnOk r (GainsThere before.items after.items (p ∷ []))
    → before.items ≡ records_under p.at.store.root p.at.key old → IsWritten old p after new → OnOk r (IsGained old new (p ∷ []))
gains_one old new p before after r there was now = on_ok_weaker r (λ t. gains old new p before after (p ∷ []) now was t (λ root key test. by_test (is_put_under root key p) (test p))) there
  where
    by_test : (a b : Bool) → ((a && b) || false) ≡ (a && (b || false))
    by_test true b = refl
    by_test false b = refl

pub gains_none : {E : Type 0} (old : PutGroups) (new : List (PutPlace × Vec PutsAt Global)) (p : BegunPut) (before after : Vec PutsAt Global) (r : Result (Unit {0}) E) → OnErr r (GainsThere before.items after.items [])
    → before.items ≡ records_under p.at.store.root p.at.key old → IsWritten old p after new → OnErr r (IsGained old new [])
gains_none old new p before after r there was now = on_err_weaker r (λ t. gains old new p before after [] now was t (λ root key test. by_test (is_put_under root key p))) there
  where
    by_test : (a : Bool) → false ≡ (a && false)
    by_test true = refl
    by_test false = refl

-- what is kept at a place, none where nothing is
pub kept_here : (kept : Option (Vec PutsAt Global)) (none records : Vec PutsAt Global) → records ≡ unwrap_or kept none → none.items ≡ [] → records.items ≡ unwrap_or (option_map (λ v. v.items) kept) []
kept_here None none records is empty = ap (λ (v : _). v.items) is ∙ empty
kept_here (Some v) none records is empty = ap (λ (v : _). v.items) is

-- ---- a test of the puts of a group

-- a put elsewhere is in no such store
elsewhere : (root layout key : Bool) → (root && key) ≡ false → ((root && layout) && key) ≡ false
elsewhere true true key e = e
elsewhere true false key e = refl
elsewhere false layout key e = refl

not_at : (root : ℕ) (key : Key) (p : BegunPut) → is_put_under root key p ≡ false → is_put_at root key p ≡ false
not_at root key p e = elsewhere _ _ (same_key p.at.key key) e

-- a test that fails of each put elsewhere passes of some of the group where it does of some of all
any_grouped : (groups : PutGroups) (puts : List BegunPut) (root : ℕ) (key : Key) (test : BegunPut → Bool) → AreGrouped groups puts → ((p : BegunPut) → is_put_at root key p ≡ false → test p ≡ false)
    → list_any (any_put test) (records_under root key groups) ≡ list_any test puts
any_grouped groups puts root key test is fails = is root key test ∙ any_alike (λ p. is_put_under root key p && test p) test (λ p. by_place p (is_put_under root key p) refl) puts
  where
    by_place : (p : BegunPut) (b : Bool) → is_put_under root key p ≡ b → (b && test p) ≡ test p
    by_place p true e = refl
    by_place p false e = sym (fails p (not_at root key p e))

-- the bytes are an item of some put where they are of one of the group
pub any_item : (groups : PutGroups) (root : ℕ) (key : Key) (bytes : List ℕ) (puts : List BegunPut) → AreGrouped groups puts
    → list_any (any_put (is_item_of root key bytes)) (records_under root key groups) ≡ list_any (is_item_of root key bytes) puts
any_item groups root key bytes puts is = any_grouped groups puts root key (is_item_of root key bytes) is (λ p e. ap (λ (b : Bool). b && same_blob (read_for p.at.driver (Some bytes)) (Some p.blob)) e)

all_by_any : {X : Type 0} (f : X → Bool) (xs : List X) → list_all f xs ≡ not (list_any (λ x. not (f x)) xs)
all_by_any f [] = refl
all_by_any f (x ∷ xs) = by_test (f x) (all_by_any f xs)
  where
    by_test : (b : Bool) → list_all f xs ≡ not (list_any (λ x. not (f x)) xs) → (b && list_all f xs) ≡ not (not b || list_any (λ x. not (f x)) xs)
    by_test true more = more
    by_test false more = refl

-- each put keeps it where each address of the group does
pub all_kept : (groups : PutGroups) (evicting : List OpenEvict) (who : Who) (root : ℕ) (key : Key) (old new : Option (List ℕ)) (puts : List BegunPut) → AreGrouped groups puts
    → list_all (λ r. keeps_at evicting who root key old new r.at) (records_under root key groups) ≡ list_all (keeps_put evicting who root key old new) puts
all_kept groups evicting who root key old new puts is =
    let keeps = keeps_at evicting who root key old new in
    let loses : BegunPut → Bool = λ p. not (keeps p.at) in
    all_by_any (λ r. keeps r.at) (records_under root key groups)
    ∙ ap not (any_alike (λ r. not (keeps r.at)) (any_put loses) (λ r. sym (any_constant loses (not (keeps r.at)) r (λ blob. refl))) (records_under root key groups)
    ∙ any_grouped groups puts root key loses is (λ p e. rw e refl))
    ∙ sym (all_by_any (λ p. keeps p.at) puts)
