-- What a put of `abc` and then a lookup leave.
use Rattle.std.proofs.Common.{◌≡◌, ◌⊎◌, inl, inr, ℕ, List, [], ◌++◌, Option, Some, refl, sym, ap, subst, ◌∙◌}
use Rattle.std.specs.Prelude.{codes}
use Rattle.file_log.specs.Log.{History}
use Rattle.report_text.specs.declared.status.Status.{Status}
use Rattle.report_text.specs.declared.status.Status.TheVariants as statuses
use Rattle.cmd_words.specs.declared.word.Word.TheVariants.{Get, Put}
use Rattle.cache_main.specs.RoundTrip.{ArePair, GivesBack, FindsAgain}
use Rattle.cache_main.specs.Words.{asked}
use Rattle.cache_tests.specs.declared.premises.TheConstants.{KEY}
use Rattle.cache_tests.specs.Found.{IsGivenBack, IsFoundAgain, words_of_abc}
use Rattle.cache_tests.proofs.Abc.{abc, abc_command, get_asked, put_asked, driver, lies, is_key, key_spelled, never_rose}

-- the words put it and then look it up
abbrev pub abc_pair : (put get : List (List ℕ)) → put ≡ words_of_abc (codes "put") → get ≡ words_of_abc (codes "get") → ArePair (asked put) (asked get) []
abc_pair put get p g = record {
  stores = abc_command Put;
  puts = ap asked p ∙ put_asked;
  is_put = refl;
  looks = abc_command Get;
  gets = ap asked g ∙ get_asked;
  is_get = refl;
  driver = refl;
  put_lies = lies Put;
  get_lies = lies Get;
  root = refl;
  key = KEY;
  put_key = (is_key, key_spelled);
  get_key = (is_key, key_spelled);
  meta = tt;
}

module _ (history : Option History) (left' written : Option (List ℕ)) (failed : ℕ) where
  given_back : GivesBack history driver KEY (Some abc) left' (Some []) written → IsGivenBack written
  given_back g = elim g.lines [
    | inl stored ↦ inl (g.printed ∙ ap (λ (line : List ℕ). Some (line ++ g.blob)) stored.0 ∙ ap (λ (blob : List ℕ). Some (codes "stored\n" ++ blob)) (sym stored.1.0))
    | inr kept ↦ inr (g.blob, g.printed ∙ ap (λ (line : List ℕ). Some (line ++ g.blob)) kept)
  ]

  by_status : (status : Status) → FindsAgain status history driver KEY 0 0 (Some abc) left' (Some []) written 0 failed → IsFoundAgain status written
  by_status statuses.Ok found = given_back found
  by_status statuses.NoMemory found = tt
  by_status statuses.WriteFault found = tt
  by_status statuses.FilesFault found = never_rose found
  by_status status found = found

  pub abc_again : (status : Status) (left out : Option (List ℕ)) (faults : ℕ) → left ≡ Some abc → out ≡ Some [] → faults ≡ 0
      → FindsAgain status history driver KEY 0 0 left left' out written faults failed → IsFoundAgain status written
  abc_again status left out faults whole empty none found =
      let from_abc = subst (λ (l : Option (List ℕ)). FindsAgain status history driver KEY 0 0 l left' out written faults failed) whole found in
      let to_nothing = subst (λ (w : Option (List ℕ)). FindsAgain status history driver KEY 0 0 (Some abc) left' w written faults failed) empty from_abc in
      by_status status (subst (λ (n : ℕ). FindsAgain status history driver KEY 0 0 (Some abc) left' (Some []) written n failed) none to_nothing)
