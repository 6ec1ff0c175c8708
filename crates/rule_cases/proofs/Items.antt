-- Each item of a seat passes the tests by what it changes just where it passes those of the rules.
use Rattle.std.proofs.Common.{◌≡◌, ◌↔◌, inl, inr, ℕ, Bool, true, false, nat_eq, ◌||◌, is_none, List, [], ◌∷◌, take, Option, Some, None, refl, sym, ap, ◌∙◌, subst, arith}
use Rattle.std.specs.Cmp.Lexicographic.{pointwise, bytes_decides}
use Rattle.std.proofs.lemmas.Bool.{eqb-true}
use Rattle.std.proofs.lemmas.Bool.Decides.{Decides-eqb}
use Rattle.cache_types.specs.Names.{same_name}
use Rattle.cache_types.specs.declared.name.Name.{Name}
use Rattle.cache_types.specs.declared.seat.Who.{Who}
use Rattle.cache_types.proofs.Names.{same_name_decides}
use Rattle.file_log.specs.Disk.{Disk, with_slot, named, made_at, rewritten, renamed, locked}
use Rattle.file_log.specs.Effect.{applied, after_call, done_call}
use Rattle.file_log.specs.Log.{seat_of}
use Rattle.file_log.specs.Operation.{IsStill}
use Rattle.file_log.specs.Writing.{written}
use Rattle.file_log.specs.declared.call.Call.{Call}
use Rattle.file_log.specs.declared.call.Call.TheVariants as calls
use Rattle.file_log.specs.declared.item.LogItem.{LogItem}
use Rattle.file_log.specs.declared.item.LogItem.TheVariants as items
use Rattle.file_log.specs.declared.reply.Reply.{Reply}
use Rattle.file_log.specs.declared.reply.Reply.TheVariants.{Done}
use Rattle.seat_rules.proofs.Unseated.{apart}
use Rattle.folder_changes.proofs.Changing.{same_self, one_or_other}
use Rattle.log_summary.specs.Summary.{Summary}
use Rattle.log_summary.proofs.Lists.{or_cases, or_left, or_right, and_parts, and_both}
use Rattle.rule_checks.specs.Tests.{Passes, PassesTests}
use Rattle.rule_cases.specs.Cases.{passes_making, may_change, passes_change, passes_renaming, passes_removing, passes_call, passes_reply, passes_changing, passes}
use Rattle.rule_cases.proofs.Fields.{Known, Leaves, passes_from, passes_to, clash}
use Rattle.rule_cases.proofs.Still.{still_leaves}
use Rattle.rule_cases.proofs.Making.{IsMade, making_leaves, leaves_making}
use Rattle.rule_cases.proofs.Writing.{IsWritten, writing_leaves, leaves_writing}
use Rattle.rule_cases.proofs.Moving.{IsMoved}
use Rattle.rule_cases.proofs.Renaming.{renaming, moves_well, renaming_leaves, leaves_renaming}
use Rattle.rule_cases.proofs.Removing.{IsRemoved, removing_leaves, leaves_removing}

-- the test says whether an item that leaves this disk passes the tests of the rules
abbrev Says : Bool → Summary → Disk → LogItem → Who → Type 0
Says test s new item who = test ≡ true ↔ Leaves s new item who

still : (test : Bool) (s : Summary) (new : Disk) (item : LogItem) (who : Who) → Known s → test ≡ true → IsStill s.state.disk new → Says test s new item who
still test s new item who k e same = (λ passed. still_leaves s new item who k same, λ l. e)

-- ---- a name is opened

abbrev opened : Option ℕ → Disk → Who → ℕ → Name → Disk
opened o d who slot name = with_slot (made_at o d name) who slot ((made_at o d name).names name)

is_made : (d : Disk) (who : Who) (slot : ℕ) (name : Name) → d.names name ≡ None → IsMade d (opened None d who slot name) name
is_made d who slot name e = record {
  absent = e;
  here = rw (same_self name) refl;
  others = λ other differ. rw differ refl;
  files = λ f less. rw (apart d.count f (λ same. absurd (omega (arith, less, same)))) refl;
}

opening : (s : Summary) (who : Who) (slot : ℕ) (name : Name) → Known s → (o : Option ℕ) → s.state.disk.names name ≡ o
    → Says (passes_making s.state.disk who name o) s (opened o s.state.disk who slot name) (items.Did who (calls.OpenNew slot name) Done) who
opening s who slot name k None e =
    let new = opened None s.state.disk who slot name in
    let item : LogItem = items.Did who (calls.OpenNew slot name) Done in
    let m = is_made s.state.disk who slot name e in
    (making_leaves s new item who name k m, leaves_making s new item who name (λ root key. refl) m)
opening s who slot name k (Some file) e = still true s (opened (Some file) s.state.disk who slot name) (items.Did who (calls.OpenNew slot name) Done) who k refl (record { names = λ n. refl; files = λ f. refl })

-- ---- a file's bytes change

-- they don't really
same_written : (d : Disk) (file : ℕ) (change : List ℕ → List ℕ) → change (d.files file) ≡ d.files file → IsStill d (rewritten d (Some file) change)
same_written d file change same = record { names = λ n. refl; files = λ f. by_test f (nat_eq file f) refl }
  where
    by_test : (f : ℕ) (b : Bool) → nat_eq file f ≡ b → (rewritten d (Some file) change).files f ≡ d.files f
    by_test f true e = rw e (same ∙ ap d.files (eqb-true file f e))
    by_test f false e = rw e refl

is_written : (d : Disk) (file : ℕ) (change : List ℕ → List ℕ) → (change (d.files file) ≡ d.files file → ⊥) → IsWritten d (rewritten d (Some file) change) file
is_written d file change differ = record {
  names = λ n. refl;
  others = λ f other. rw (apart file f other) refl;
  differ = λ same. differ (sym here ∙ same);
}
  where
    itself : nat_eq file file ≡ true
    itself = (Decides-eqb file file).1 refl

    here : (rewritten d (Some file) change).files file ≡ change (d.files file)
    here = rw itself refl

changing : (s : Summary) (item : LogItem) (who : Who) (change : List ℕ → List ℕ) → Known s → (o : Option ℕ) → Says (passes_change s who change o) s (rewritten s.state.disk o change) item who
changing s item who change k None = still true s s.state.disk item who k refl (record { names = λ n. refl; files = λ f. refl })
changing s item who change k (Some file) = by_test (pointwise nat_eq (change (s.state.disk.files file)) (s.state.disk.files file)) refl
  where
    new : Disk
    new = rewritten s.state.disk (Some file) change

    same_bytes : Bool
    same_bytes = pointwise nat_eq (change (s.state.disk.files file)) (s.state.disk.files file)

    by_test : (b : Bool) → same_bytes ≡ b → Says (same_bytes || may_change s who file) s new item who
    by_test true e = still (same_bytes || may_change s who file) s new item who k (or_left same_bytes _ e) (same_written s.state.disk file change ((bytes_decides (change (s.state.disk.files file)) (s.state.disk.files file)).0 e))
    by_test false e =
        let w = is_written s.state.disk file change (λ same. clash same_bytes ((bytes_decides (change (s.state.disk.files file)) (s.state.disk.files file)).1 same) e) in (
          λ passed. elim (or_cases same_bytes _ passed) [ inl same ↦ absurd (clash same_bytes same e) | inr may ↦ writing_leaves s new item who file k w may ],
          λ l. or_right same_bytes _ (leaves_writing s new item who file w l),
        )

-- ---- a name is renamed

other_way : (a b : Name) → same_name a b ≡ false → same_name b a ≡ false
other_way a b e = elim (one_or_other b a) [
  | inl same ↦ absurd (clash (same_name a b) ((same_name_decides a b).1 (sym same)) e)
  | inr differ ↦ differ
]

-- to itself
moved_to_itself : (d : Disk) (from to : Name) (file : ℕ) → d.names from ≡ Some file → from ≡ to → IsStill d (renamed d (Some file) from to)
moved_to_itself d from to file had same = record { names = each; files = λ f. refl }
  where
    there : (renamed d (Some file) from to).names to ≡ Some file
    there = rw (same_self to) refl

    each : (name : Name) → (renamed d (Some file) from to).names name ≡ d.names name
    each name = elim (one_or_other to name) [
      | inl is ↦ ap (renamed d (Some file) from to).names (sym is) ∙ there ∙ sym had ∙ ap d.names (same ∙ is)
      | inr differ ↦ let from_differs : same_name from name ≡ false = ap (λ (n : Name). same_name n name) same ∙ differ in rw (differ, from_differs) refl
    ]

is_moved : (d : Disk) (from to : Name) (file : ℕ) → d.names from ≡ Some file → same_name from to ≡ false → IsMoved d (renamed d (Some file) from to) from to file
is_moved d from to file had differ = record {
  apart = differ;
  here = record { had = had; gone = rw (other_way from to differ, same_self from) refl; files = λ f. refl };
  there = rw (same_self to) refl;
  others = λ name e f. rw (f, e) refl;
}

moving : (s : Summary) (who : Who) (from to : Name) → Known s → (o : Option ℕ) → s.state.disk.names from ≡ o → Says (passes_renaming s who from to o) s (renamed s.state.disk o from to) (renaming who from to) who
moving s who from to k None e = still true s s.state.disk (renaming who from to) who k refl (record { names = λ n. refl; files = λ f. refl })
moving s who from to k (Some file) e = by_test (same_name from to) refl
  where
    new : Disk
    new = renamed s.state.disk (Some file) from to

    by_test : (b : Bool) → same_name from to ≡ b → Says (same_name from to || moves_well s who from file to) s new (renaming who from to) who
    by_test true same = still (same_name from to || moves_well s who from file to) s new (renaming who from to) who k (or_left (same_name from to) _ same) (moved_to_itself s.state.disk from to file e ((same_name_decides from to).0 same))
    by_test false differ =
        let m = is_moved s.state.disk from to file e differ in (
          λ passed. elim (or_cases (same_name from to) _ passed) [ inl same ↦ absurd (clash (same_name from to) same differ) | inr well ↦ renaming_leaves s new who from to file k m well ],
          λ l. or_right (same_name from to) _ (leaves_renaming s new who from to file k m l),
        )

-- ---- a name is removed

-- one that has no file
absent_removed : (d : Disk) (name : Name) → d.names name ≡ None → IsStill d (named d name None)
absent_removed d name absent = record { names = each; files = λ f. refl }
  where
    here : (named d name None).names name ≡ None
    here = rw (same_self name) refl

    each : (other : Name) → (named d name None).names other ≡ d.names other
    each other = elim (one_or_other name other) [
      | inl same ↦ ap (named d name None).names (sym same) ∙ here ∙ sym absent ∙ ap d.names same
      | inr differ ↦ rw differ refl
    ]

is_removed : (d : Disk) (name : Name) (file : ℕ) → d.names name ≡ Some file → IsRemoved d (named d name None) name file
is_removed d name file had = record {
  here = record { had = had; gone = rw (same_self name) refl; files = λ f. refl };
  others = λ other differ. rw differ refl;
}

removing : (s : Summary) (who : Who) (name : Name) → Known s → (o : Option ℕ) → s.state.disk.names name ≡ o → Says (passes_removing s who name o) s (named s.state.disk name None) (items.Did who (calls.Remove name) Done) who
removing s who name k None e = still true s (named s.state.disk name None) (items.Did who (calls.Remove name) Done) who k refl (absent_removed s.state.disk name e)
removing s who name k (Some file) e =
    let new = named s.state.disk name None in
    let item : LogItem = items.Did who (calls.Remove name) Done in
    let r = is_removed s.state.disk name file e in
    (removing_leaves s new item who name file (λ root key. refl) k r, leaves_removing s new item who name file r)

-- ---- each item

locking : (d : Disk) (who : Who) (slot : ℕ) (o : Option ℕ) → IsStill d (locked d who slot o)
locking d who slot None = record { names = λ n. refl; files = λ f. refl }
locking d who slot (Some file) = record { names = λ n. refl; files = λ f. refl }

doing : (s : Summary) (who : Who) (call : Call) → Known s → Says (passes_call s who call) s (done_call s.state.disk who call) (items.Did who call Done) who
doing s who (calls.OpenNew slot name) k = opening s who slot name k (s.state.disk.names name) refl
doing s who (calls.Cut slot n) k = changing s (items.Did who (calls.Cut slot n) Done) who (take n) k (s.state.disk.slots who slot)
doing s who (calls.Rename from to) k = moving s who from to k (s.state.disk.names from) refl
doing s who (calls.Remove name) k = removing s who name k (s.state.disk.names name) refl
doing s who (calls.TryLock slot) k = still true s (done_call s.state.disk who (calls.TryLock slot)) (items.Did who (calls.TryLock slot) Done) who k refl (locking s.state.disk who slot (s.state.disk.slots who slot))
doing s who call k = still true s (done_call s.state.disk who call) (items.Did who call Done) who k refl (record { names = λ n. refl; files = λ f. refl })

calling : (s : Summary) (who : Who) (call : Call) (reply : Reply) → Known s → Says (passes_reply s who call reply) s (after_call s.state.disk who call reply) (items.Did who call reply) who
calling s who call Done k = doing s who call k
calling s who call reply k = still true s s.state.disk (items.Did who call reply) who k refl (record { names = λ n. refl; files = λ f. refl })

who_is : (a b : Who) → Some a ≡ Some b → a ≡ b
who_is a b e = cc

pub item_says : (s : Summary) (item : LogItem) (who : Who) → Known s → seat_of item ≡ Some who → Says (passes_changing s item) s (applied s.state.disk item) item who
item_says s (items.Did by call reply) who k seat =
    subst (Says (passes_reply s by call reply) s (after_call s.state.disk by call reply) (items.Did by call reply)) (who_is by who seat) (calling s by call reply k)
item_says s (items.Byte by slot at value) who k seat =
    let item : LogItem = items.Byte by slot at value in
    subst (Says (passes_changing s item) s (applied s.state.disk item) item) (who_is by who seat) (changing s item by (written at (value ∷ [])) k (s.state.disk.slots by slot))
item_says s (items.Stop process) who k seat = absurd cc
item_says s (items.Install root name main index) who k seat = absurd cc
item_says s (items.SetList text) who k seat = absurd cc
item_says s item who k seat = still true s (applied s.state.disk item) item who k refl (record { names = λ n. refl; files = λ f. refl })

-- with its answer, and of no seat
pub tested : (s : Summary) (item : LogItem) → Known s → passes s item ≡ true ↔ PassesTests s item
tested s item k = by_seat (seat_of item) refl
  where
    by_seat : (o : Option Who) → seat_of item ≡ o → passes s item ≡ true ↔ PassesTests s item
    by_seat None e = (λ passed who seat. let none : None ≡ Some who = sym e ∙ seat in absurd cc, λ p. or_left (is_none (seat_of item)) _ (ap is_none e))
    by_seat (Some who) e =
        let says = item_says s item who k e in (
          λ passed. elim (or_cases (is_none (seat_of item)) _ passed) [
            | inl none ↦ absurd (clash (is_none (seat_of item)) none (ap is_none e))
            | inr both ↦
                let parts = and_parts (passes_changing s item) _ both in
                λ other seat. subst (Passes s item) (who_is who other (sym e ∙ seat)) (passes_from s item who (says.0 parts.0) parts.1)
          ],
          λ p. or_right (is_none (seat_of item)) _ (and_both (passes_changing s item) _ (says.1 (passes_to s item who (p who e))) (p who e).earned),
        )
