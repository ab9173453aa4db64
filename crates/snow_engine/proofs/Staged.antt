-- What comes of a node of one stage comes of it as a node.
use Rattle.std.proofs.Common.{◌≡◌, ℕ, List, Result, Ok, Err, ap, subst, sym, inl, inr}
use Rattle.snow_boot.specs.Clauses.Calling.{Brings}
use Rattle.snow_boot.specs.Clauses.Calling.{Logs as BootLogs}
use Rattle.snow_boot.specs.Model.Booting.{Boot, Next}
use Rattle.snow_chain.specs.Model.Chain.{Held}
use Rattle.snow_lines.specs.declared.line.Line.{Line}
use Rattle.snow_node.specs.declared.stop.Halt.{Halt}
use Rattle.snow_node.specs.declared.stop.Halt.TheVariants as halt
use Rattle.snow_node.specs.Clauses.Stepping.{LogsFront, Tells, Turns}
use Rattle.snow_node.proofs.Logs.{logs_whole}
use Rattle.snow_store.specs.declared.stop.BootStop.{BootStop}
use Rattle.snow_store.specs.declared.stop.BootStop.TheVariants as why
use Rattle.snow_engine.specs.declared.stop.EngineStop.{EngineStop}
use Rattle.snow_engine.specs.declared.stop.EngineStop.TheVariants as stop
use Rattle.snow_engine.specs.Kept.Staging.{Node, staged, stop_of_boot}
use Rattle.snow_engine.specs.Kept.Boxed.{as_step}
use Rattle.snow_engine.specs.Clauses.Boxing.{IsBoxed}
use Rattle.snow_engine.specs.Model.Booting.{Booting}
use Rattle.snow_engine.specs.Model.Catching.{brings}
use Rattle.snow_engine.specs.Clauses.Stopping.{Logs, Starts, Steps, StopsAs}

-- a step of one stage is one of the node
pub stepped : (S : Type 0) (as_node : S → Node) (given : Result (Unit {0}) Halt) (result : Result (Unit {0}) EngineStop) (after : S) (expected : Result S Halt)
    → result ≡ as_step given → Turns given after expected → Steps result (as_node after) (staged as_node expected)
stepped S as_node given result after expected is t = subst (λ (r : Result (Unit {0}) EngineStop). Steps r (as_node after) (staged as_node expected)) (sym is) (steps given t)
  where
    steps : (given : Result (Unit {0}) Halt) → Turns given after expected → Steps (as_step given) (as_node after) (staged as_node expected)
    steps (Ok u) t = ap (staged as_node) t
    steps (Err halt.Memory) t = tt
    steps (Err halt.SecondStart) t = ap (staged as_node) t
    steps (Err halt.Requests) t = ap (staged as_node) t

-- and its lines
pub step_logged : (given : Result (Unit {0}) Halt) (result : Result (Unit {0}) EngineStop) (before now lines : List Line)
    → result ≡ as_step given → Tells given before now lines → Logs result before now lines
step_logged given result before now lines is l = subst (λ (r : Result (Unit {0}) EngineStop). Logs r before now lines) (sym is) (logs given l)
  where
    logs : (given : Result (Unit {0}) Halt) → Tells given before now lines → Logs (as_step given) before now lines
    logs (Ok u) l = l
    logs (Err halt.Memory) l = l
    logs (Err halt.SecondStart) l = l
    logs (Err halt.Requests) l = l

-- what gave a stop in place of a node stops so, in a box
pub stopped : (S : Type 0) (s b : EngineStop) (expected : Result S EngineStop) → IsBoxed stop.Memory s b → Starts {S = S} (Err s) expected → StopsAs b expected
stopped S s b expected (inl same) e = rw same (stops s e)
  where
    stops : (s : EngineStop) → Starts {S = S} (Err s) expected → StopsAs s expected
    stops (stop.Params fault) e = e
    stops (stop.Roster fault) e = e
    stops stop.State e = e
    stops (stop.Boot why) e = e
    stops stop.SecondStart e = e
    stops stop.Requests e = e
    stops stop.Memory e = tt
stopped S s b expected (inr none) e = rw none tt

-- and its lines
pub stop_logged : (T U : Type 0) (s b : EngineStop) (before now lines : List Line) → IsBoxed stop.Memory s b → Logs {T = T} (Err s) before now lines → Logs {T = U} (Err b) before now lines
stop_logged T U s b before now lines (inl same) l = rw same (logs s l)
  where
    logs : (s : EngineStop) → Logs {T = T} (Err s) before now lines → Logs {T = U} (Err s) before now lines
    logs (stop.Params fault) l = l
    logs (stop.Roster fault) l = l
    logs stop.State l = l
    logs (stop.Boot why) l = l
    logs stop.SecondStart l = l
    logs stop.Requests l = l
    logs stop.Memory l = l
stop_logged T U s b before now lines (inr none) l = rw none (front s l)
  where
    front : (s : EngineStop) → Logs {T = T} (Err s) before now lines → LogsFront before now lines
    front (stop.Params fault) l = logs_whole before now lines l
    front (stop.Roster fault) l = logs_whole before now lines l
    front stop.State l = logs_whole before now lines l
    front (stop.Boot why) l = logs_whole before now lines l
    front stop.SecondStart l = logs_whole before now lines l
    front stop.Requests l = logs_whole before now lines l
    front stop.Memory l = l

-- what stopped bootstrapping stops the node so, in a box
pub boot_stopped : (node : Booting) (w : BootStop) (s b : EngineStop) (boot : Boot) (drawn : ℕ) (held : Held) (expected : Result Next BootStop) → s ≡ stop_of_boot w → IsBoxed stop.Memory s b
    → Brings (Err w) boot drawn held expected → StopsAs b (brings node expected)
boot_stopped node w s b boot drawn held expected is boxed e = stopped Node s b (brings node expected) boxed (rw is (starts w e))
  where
    starts : (w : BootStop) → Brings (Err w) boot drawn held expected → Starts {S = Node} (Err (stop_of_boot w)) (brings node expected)
    starts why.Memory e = tt
    starts why.Requests e = ap (brings node) e
    starts why.Full e = ap (brings node) e
    starts (why.Conflict height first second) e = ap (brings node) e
    starts (why.Fork id parent) e = ap (brings node) e
    starts (why.Refused id) e = ap (brings node) e

-- the lines of a stop of bootstrapping are those of the node's
pub boot_logged : (T U : Type 0) (w : BootStop) (s : EngineStop) (before now lines : List Line) → s ≡ stop_of_boot w → BootLogs {T = T} (Err w) before now lines → Logs {T = U} (Err s) before now lines
boot_logged T U w s before now lines is l = rw is (logs w l)
  where
    logs : (w : BootStop) → BootLogs {T = T} (Err w) before now lines → Logs {T = U} (Err (stop_of_boot w)) before now lines
    logs why.Memory l = record { front = l.front; rest = l.rest; whole = l.whole; grown = l.grown }
    logs why.Requests l = l
    logs why.Full l = l
    logs (why.Conflict height first second) l = l
    logs (why.Fork id parent) l = l
    logs (why.Refused id) l = l
