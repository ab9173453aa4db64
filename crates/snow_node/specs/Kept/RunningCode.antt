-- The code of a node that runs, which its model asks for.
use Rattle.std.specs.Prelude.{ℕ, Bool, List, Option, refl}
use Rattle.std.specs.Coded.{Coded, coded_ℕ, coded_bool, coded_list, coded_option, coded×, code_by}
use Rattle.snow_flake.specs.Model.Parameters.{Parameters}
use Rattle.snow_sample.specs.declared.draws.Draw.{Draw}
use Rattle.snow_sample.specs.declared.roster.Node.{Node as Member}
use Rattle.snow_board.specs.Model.Board.{Board}
use Rattle.snow_board.specs.Kept.BoardCode.{coded_board}
use Rattle.snow_chain.specs.Model.Chain.{Held as States}
use Rattle.snow_chain.specs.Kept.Coded.{coded_held}
use Rattle.snow_poll.specs.declared.poll.Reply.{Reply}
use Rattle.snow_poll.specs.Model.Poll.{Poll}
use Rattle.snow_poll.specs.Model.Table.{Table}
use Rattle.snow_issue.specs.declared.gone.Gone.{Gone}
use Rattle.snow_gets.specs.declared.gets.Get.{Get}
use Rattle.snow_held.specs.declared.held.Held.{Held}
use Rattle.snow_issue.specs.declared.work.Waiting.{Waiting}
use Rattle.snow_issue.specs.Model.Lists.{Lists}
use Rattle.snow_getter.specs.declared.served.Served.{Served}
use Rattle.snow_getter.specs.Model.Serving.{Serving}
use Rattle.snow_node.specs.Model.Running.{Running}

abbrev Bytes : Type 0
Bytes = List ℕ

-- bytes, and what has them as a name
abbrev coded_bytes : Coded Bytes
coded_bytes = coded_list coded_ℕ

abbrev coded_maybe : Coded (Option Bytes)
coded_maybe = coded_option coded_bytes

-- ---- the roster and the table of polls

abbrev pub coded_member : Coded Member
coded_member = code_by (Bytes × ℕ) (coded× coded_bytes coded_ℕ) (λ m. (m.id, m.weight)) (λ f. record { id = f.0; weight = f.1 }) (λ _. refl)

abbrev coded_draw : Coded Draw
coded_draw = code_by (Bytes × ℕ) (coded× coded_bytes coded_ℕ) (λ d. (d.node, d.count)) (λ f. record { node = f.0; count = f.1 }) (λ _. refl)

abbrev coded_reply : Coded Reply
coded_reply = code_by (Bytes × Option Bytes) (coded× coded_bytes coded_maybe) (λ r. (r.node, r.id)) (λ f. record { node = f.0; id = f.1 }) (λ _. refl)

abbrev coded_poll : Coded Poll
coded_poll =
    code_by (ℕ × (List Draw × List Reply)) (coded× coded_ℕ (coded× (coded_list coded_draw) (coded_list coded_reply)))
    (λ q. (q.number, (q.draws, q.replies)))
    (λ f. record { number = f.0; draws = f.1.0; replies = f.1.1 })
    (λ _. refl)

abbrev pub coded_parameters : Coded Parameters
coded_parameters =
    code_by (ℕ × (ℕ × (ℕ × (ℕ × ℕ)))) (coded× coded_ℕ (coded× coded_ℕ (coded× coded_ℕ (coded× coded_ℕ coded_ℕ))))
    (λ p. (p.k, (p.alpha_preference, (p.alpha_confidence, (p.beta, p.repolls)))))
    (λ f. record { k = f.0; alpha_preference = f.1.0; alpha_confidence = f.1.1.0; beta = f.1.1.1.0; repolls = f.1.1.1.1 })
    (λ _. refl)

abbrev coded_table : Coded Table
coded_table =
    code_by (Parameters × List Poll) (coded× coded_parameters (coded_list coded_poll))
    (λ t. (t.parameters, t.polls)) (λ f. record { parameters = f.0; polls = f.1 }) (λ _. refl)

-- ---- the queue

abbrev coded_waiting : Coded Waiting
coded_waiting =
    code_by (Bytes × (Bytes × (Bytes × (ℕ × Bytes)))) (coded× coded_bytes (coded× coded_bytes (coded× coded_bytes (coded× coded_ℕ coded_bytes))))
    (λ w. (w.node, (w.header.id, (w.header.parent, (w.header.height, w.bytes)))))
    (λ f. record { node = f.0; header = record { id = f.1.0; parent = f.1.1.0; height = f.1.1.1.0 }; bytes = f.1.1.1.1 })
    (λ _. refl)

abbrev coded_get : Coded Get
coded_get =
    code_by (ℕ × (Bytes × Bytes)) (coded× coded_ℕ (coded× coded_bytes coded_bytes))
    (λ g. (g.number, (g.node, g.id))) (λ f. record { number = f.0; node = f.1.0; id = f.1.1 }) (λ _. refl)

abbrev coded_held_reply : Coded Held
coded_held_reply =
    code_by (ℕ × (Bytes × Bytes)) (coded× coded_ℕ (coded× coded_bytes coded_bytes))
    (λ h. (h.number, (h.node, h.id))) (λ f. record { number = f.0; node = f.1.0; id = f.1.1 }) (λ _. refl)

abbrev coded_gone : Coded Gone
coded_gone = code_by (Bytes × Option Bytes) (coded× coded_bytes coded_maybe) (λ e. (e.id, e.parent)) (λ f. record { id = f.0; parent = f.1 }) (λ _. refl)

abbrev coded_lists : Coded Lists
coded_lists =
    code_by (List Waiting × (List Get × (List Held × List Gone)))
    (coded× (coded_list coded_waiting) (coded× (coded_list coded_get) (coded× (coded_list coded_held_reply) (coded_list coded_gone))))
    (λ q. (q.waiting, (q.gets, (q.held, q.gone))))
    (λ f. record { waiting = f.0; gets = f.1.0; held = f.1.1.0; gone = f.1.1.1 })
    (λ _. refl)

-- ---- what peers are served

abbrev coded_served_block : Coded Served
coded_served_block =
    code_by (Bytes × (Bytes × Bytes)) (coded× coded_bytes (coded× coded_bytes coded_bytes))
    (λ b. (b.id, (b.parent, b.bytes))) (λ f. record { id = f.0; parent = f.1.0; bytes = f.1.1 }) (λ _. refl)

abbrev coded_serving : Coded Serving
coded_serving =
    code_by (Bytes × (List Served × List Served)) (coded× coded_bytes (coded× (coded_list coded_served_block) (coded_list coded_served_block)))
    (λ s. (s.first, (s.pending, s.accepted))) (λ f. record { first = f.0; pending = f.1.0; accepted = f.1.1 }) (λ _. refl)

-- ---- the node

abbrev pub coded_running : Coded Running
coded_running =
    code_by (Board × (States × (Serving × (List Member × (Table × (Lists × (List ℕ × (ℕ × Bool))))))))
    (coded× coded_board (coded× coded_held (coded× coded_serving (coded× (coded_list coded_member) (coded× coded_table (coded× coded_lists (coded× (coded_list coded_ℕ) (coded× coded_ℕ coded_bool))))))))
    (λ n. (n.board, (n.chain, (n.served, (n.roster, (n.polls, (n.queue, (n.words, (n.last, n.recorded)))))))))
    (λ f. record {
      board = f.0;
      chain = f.1.0;
      served = f.1.1.0;
      roster = f.1.1.1.0;
      polls = f.1.1.1.1.0;
      queue = f.1.1.1.1.1.0;
      words = f.1.1.1.1.1.1.0;
      last = f.1.1.1.1.1.1.1.0;
      recorded = f.1.1.1.1.1.1.1.1;
    })
    (λ _. refl)
