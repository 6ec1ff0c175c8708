-- Calls with their replies: how many calls their items count as, and the root that these stand in.
use Rattle.std.proofs.Common.{◌≡◌, ◌≤◌, ◌+◌, ℕ, true, List, [], ◌∷◌, ◌++◌, length, take, refl, subst, arith, append-nil}
use Rattle.std.proofs.lemmas.Bool.{ne_eqb}
use Rattle.std.specs.List.{AllByRecursion}
use Rattle.cache_types.specs.declared.answer.Answer.TheVariants.{NoMemory}
use Rattle.cache_types.specs.declared.seat.Who.{Who}
use Rattle.file_log.specs.declared.call.Call.{Call}
use Rattle.file_log.specs.declared.call.Call.TheVariants as calls
use Rattle.file_log.specs.declared.reply.Reply.{Reply}
use Rattle.file_log.specs.declared.reply.Reply.TheVariants as replies
use Rattle.file_log.specs.Exchange.{Answers, Makes, Exchange, byte_items, items_before}
use Rattle.file_log.specs.Operation.{NamesOnly, IsWithinRoot, calls_in}
use Rattle.files_api.specs.declared.machine.Step.{Step}
use Rattle.files_api.specs.declared.machine.Step.TheVariants.{Ask, Done}
use Rattle.files_api.specs.Drive.{IsWithin, Runs, items_of_all}
use Rattle.folder_store.proofs.Calls.{ask_is, not_ask}
use Rattle.folder_store.proofs.Items.{weight, AsksWithin, Lasts, Spends, all_within, all_counted}

-- so many calls they count as at most
abbrev pub weights : List Exchange → ℕ
weights [] = 0
weights (x ∷ xs) = weight x.call x.reply + weights xs

pub weights_append : (xs ys : List Exchange) → weights (xs ++ ys) ≡ weights xs + weights ys
weights_append [] ys = omega arith
weights_append (x ∷ xs) ys = omega (arith, weights_append xs ys)

pub each_append : {X : Type 0} (P : X → Type 0) (xs ys : List X) → AllByRecursion P xs → AllByRecursion P ys → AllByRecursion P (xs ++ ys)
each_append P [] ys a b = b
each_append P (x ∷ xs) ys a b = (a.0, each_append P xs ys a.1 b)

-- their calls stand within an operation and name this root's files alone
abbrev pub CallsWithin : ℕ → List Exchange → Type 0
CallsWithin root xs = AllByRecursion (λ x. IsWithin x.call × NamesOnly root x.call) xs

-- ---- a machine that asks for just these calls, one after another: what is known of runs so holds of them

abbrev script_asks : List Exchange → Step
script_asks [] = Done NoMemory
script_asks (x ∷ xs) = Ask x.call

abbrev script_asked : List Exchange → List Exchange
script_asked xs = xs

abbrev ScriptFed : List Exchange → Reply → List Exchange → Type 0
ScriptFed [] reply ys = ⊥
ScriptFed (x ∷ xs) reply ys = (reply ≡ x.reply) × (ys ≡ xs)

script_spends : Spends script_asks script_asked ScriptFed weights
script_spends [] ys call reply e fits fed = absurd fed
script_spends (x ∷ xs) ys call reply e fits fed = rw (fed.0, fed.1) (subst (λ (c : Call). weight c x.reply + weights xs ≤ weight x.call x.reply + weights xs) (ask_is x.call call e) (omega arith))

script_within : (root : ℕ) → AsksWithin script_asks script_asked ScriptFed root (CallsWithin root)
script_within root [] call here e = not_ask call NoMemory e
script_within root (x ∷ xs) call here e = subst (λ (c : Call). IsWithin c × NamesOnly root c) (ask_is x.call call e) here.0

script_lasts : (root : ℕ) → Lasts script_asks script_asked ScriptFed (CallsWithin root)
script_lasts root [] ys reply here fed = absurd fed
script_lasts root (x ∷ xs) ys reply here fed = rw fed.1 here.1

module _ (me : Who) where
  -- each is a call with a reply that it has, and the items that it makes then
  abbrev pub AreExchanges : List Exchange → Type 0
  AreExchanges xs = AllByRecursion (λ x. Answers true x.call x.reply × Makes me true x.call x.reply x.items) xs

  script_runs : (xs : List Exchange) → AreExchanges xs → Runs script_asks script_asked ScriptFed me xs xs NoMemory []
  script_runs [] all = (refl, refl)
  script_runs (x ∷ xs) all = (refl, all.0.0, all.0.1, (xs, (refl, refl), script_runs xs all.1))

  pub exchanges_count : (xs : List Exchange) → AreExchanges xs → calls_in (items_of_all xs) ≤ weights xs
  exchanges_count xs all = all_counted script_asks script_asked ScriptFed me weights script_spends xs [] xs NoMemory (script_runs xs all)

  pub exchanges_within : (root : ℕ) (xs : List Exchange) → AreExchanges xs → CallsWithin root xs → AllByRecursion (IsWithinRoot root) (items_of_all xs)
  exchanges_within root xs all within = all_within script_asks script_asked ScriptFed me root (CallsWithin root) (script_within root) (script_lasts root) xs [] xs NoMemory within (script_runs xs all)

  -- ---- a call that is under way

  -- a write has made its first bytes, as if it were a write of those
  abbrev written : ℕ → ℕ → List ℕ → List Exchange
  written slot at [] = []
  written slot at (v ∷ vs) = record { call = calls.WriteAt slot at (v ∷ vs); reply = replies.Done; items = byte_items me slot at (v ∷ vs) } ∷ []

  abbrev pub under_way : Call → ℕ → List Exchange
  under_way (calls.WriteAt slot at bytes) done = written slot at (take done bytes)
  under_way call done = []

  written_items : (slot at : ℕ) (bytes : List ℕ) → items_of_all (written slot at bytes) ≡ byte_items me slot at bytes
  written_items slot at [] = refl
  written_items slot at (v ∷ vs) = append-nil (byte_items me slot at (v ∷ vs))

  pub under_way_items : (call : Call) (done : ℕ) → items_of_all (under_way call done) ≡ items_before me call done
  under_way_items (calls.WriteAt slot at bytes) done = written_items slot at (take done bytes)
  under_way_items call done = refl

  -- exchanges that count as one call at most, and name no file
  pub record IsSmallPart (xs : List Exchange) : Type 0 where
    pub exchanges : AreExchanges xs
    pub one : weights xs ≤ 1
    pub within : (root : ℕ) → CallsWithin root xs

  written_is : (slot at : ℕ) (bytes : List ℕ) → IsSmallPart (written slot at bytes)
  written_is slot at [] = record { exchanges = tt; one = omega arith; within = λ root. tt }
  written_is slot at (v ∷ vs) = record { exchanges = ((tt, rw (ne_eqb (length (v ∷ vs)) 0 (λ e. absurd (omega arith))) refl), tt); one = omega arith; within = λ root. ((tt, tt), tt) }

  pub under_way_is : (call : Call) (done : ℕ) → IsSmallPart (under_way call done)
  under_way_is (calls.WriteAt slot at bytes) done = written_is slot at (take done bytes)
  under_way_is call done = record { exchanges = tt; one = omega arith; within = λ root. tt }
