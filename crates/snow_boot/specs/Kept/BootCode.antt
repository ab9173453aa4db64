-- The code of a node that bootstraps, which its model asks for.
use Rattle.std.specs.Prelude.{◌≡◌, ℕ, zero, suc, Bool, List, refl}
use Rattle.std.specs.Coded.{Coded, coded_ℕ, coded_bool, coded_list, coded×, code_by}
use Rattle.snow_sample.specs.declared.roster.Node.{Node}
use Rattle.snow_gets.specs.declared.gets.Get.{Get}
use Rattle.snow_store.specs.declared.needs.Due.{Due}
use Rattle.snow_store.specs.Model.Keeping.{Store}
use Rattle.snow_store.specs.Model.Paths.{Fetch}
use Rattle.snow_store.specs.Kept.StoreCode.{Bytes, coded_bytes, coded_store, coded_fetch, coded_due}
use Rattle.snow_boot.specs.declared.question.Candidate.{Candidate}
use Rattle.snow_boot.specs.declared.question.Question.{Question}
use Rattle.snow_boot.specs.declared.question.Question.TheVariants as question
use Rattle.snow_boot.specs.Kept.Fetching.{Hunt}
use Rattle.snow_boot.specs.Model.Booting.{Boot}
use Rattle.snow_boot.specs.Clauses.Calling.{Course}
use Rattle.snow_boot.specs.Kept.Surveying.{Surveyed}

abbrev pub coded_hunt : Coded Hunt
coded_hunt =
    code_by (Bool × (Due × Fetch)) (coded× coded_bool (coded× coded_due coded_fetch))
    (λ s. (s.whole, (s.due, s.fetch))) (λ f. record { whole = f.0; due = f.1.0; fetch = f.1.1 }) (λ _. refl)

abbrev coded_node : Coded Node
coded_node = code_by (Bytes × ℕ) (coded× coded_bytes coded_ℕ) (λ n. (n.id, n.weight)) (λ f. record { id = f.0; weight = f.1 }) (λ _. refl)

abbrev coded_candidate : Coded Candidate
coded_candidate = code_by (Bytes × ℕ) (coded× coded_bytes coded_ℕ) (λ c. (c.id, c.weight)) (λ f. record { id = f.0; weight = f.1 }) (λ _. refl)

abbrev coded_request : Coded Get
coded_request =
    code_by (ℕ × (Bytes × Bytes)) (coded× coded_ℕ (coded× coded_bytes coded_bytes))
    (λ r. (r.number, (r.node, r.id))) (λ f. record { number = f.0; node = f.1.0; id = f.1.1 }) (λ _. refl)

-- a question as a number
abbrev numbered : Question → ℕ
numbered question.Frontier = zero
numbered question.Accepted = suc zero
numbered question.Nothing = suc (suc zero)

abbrev of_number : ℕ → Question
of_number zero = question.Frontier
of_number (suc zero) = question.Accepted
of_number (suc (suc n)) = question.Nothing

abbrev same : (q : Question) → of_number (numbered q) ≡ q
same question.Frontier = refl
same question.Accepted = refl
same question.Nothing = refl

abbrev pub coded_question : Coded Question
coded_question = code_by ℕ coded_ℕ numbered of_number same

abbrev pub coded_surveyed : Coded Surveyed
coded_surveyed =
    code_by (List Node × (Question × (ℕ × (List Node × List Candidate))))
    (coded× (coded_list coded_node) (coded× coded_question (coded× coded_ℕ (coded× (coded_list coded_node) (coded_list coded_candidate)))))
    (λ s. (s.nodes, (s.question, (s.number, (s.awaited, s.candidates)))))
    (λ f. record { nodes = f.0; question = f.1.0; number = f.1.1.0; awaited = f.1.1.1.0; candidates = f.1.1.1.1 })
    (λ _. refl)

abbrev pub coded_boot : Coded Boot
coded_boot =
    code_by (Store × (List Node × (Question × (ℕ × (List Node × (List Candidate × (List Bytes × (List Bytes × List Get))))))))
    (coded× coded_store (coded× (coded_list coded_node) (coded× coded_question (coded× coded_ℕ (coded× (coded_list coded_node) (coded× (coded_list coded_candidate)
    (coded× (coded_list coded_bytes) (coded× (coded_list coded_bytes) (coded_list coded_request)))))))))
    (λ b. (b.store, (b.nodes, (b.question, (b.number, (b.awaited, (b.candidates, (b.targets, (b.found, b.requests)))))))))
    (λ f. record {
      store = f.0;
      nodes = f.1.0;
      question = f.1.1.0;
      number = f.1.1.1.0;
      awaited = f.1.1.1.1.0;
      candidates = f.1.1.1.1.1.0;
      targets = f.1.1.1.1.1.1.0;
      found = f.1.1.1.1.1.1.1.0;
      requests = f.1.1.1.1.1.1.1.1;
    })
    (λ _. refl)

abbrev pub coded_course : Coded Course
coded_course = code_by (Bool × Boot) (coded× coded_bool coded_boot) (λ c. (c.goes_on, c.boot)) (λ f. record { goes_on = f.0; boot = f.1 }) (λ _. refl)
