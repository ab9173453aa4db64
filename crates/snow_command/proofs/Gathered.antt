-- A walk over the items gathers what the tests on all of them find.
use Rattle.std.proofs.Common.{◌≡◌, ◌∙◌, ℕ, Bool, true, false, cond, ◌&&◌, List, [], ◌∷◌, ◌++◌, subst, Option, Some, None, refl, sym, ap, codes}
use Rattle.std.specs.List.{list_all}
use Rattle.std.specs.Option.{option_and_then}
use Rattle.std.specs.Str.{bytes_eq}
use Rattle.std.proofs.lemmas.Slice.Eq.{bytes_eq-Decides}
use Rattle.snow_command.specs.declared.command.Job.{Job}
use Rattle.snow_command.specs.declared.command.Command.{Command}
use Rattle.snow_command.specs.declared.command.ChainName.{ChainName}
use Rattle.snow_command.specs.declared.command.ChainName.TheVariants as chain
use Rattle.snow_command.specs.declared.command.RuleName.{RuleName}
use Rattle.snow_command.specs.declared.command.RuleName.TheVariants as rule
use Rattle.snow_command.specs.Model.Words.{Item, Plain, Given, Wrong, items, plain_words, values, is_among, one_of, the_one, job_named, chain_named, rule_named, seed_named, blocks_named, streaming, drilling, drill_of, is_drill, task_with, command_of}
use Rattle.snow_command.specs.Kept.Request.{Request, blank, with_items, command_in, service, service_of, drill_by}

abbrev Word : Type 0
Word = List ℕ

-- the names of all options
abbrev known : List Word
known = codes "chain" ∷ codes "rule" ∷ codes "seed" ∷ codes "blocks" ∷ []

-- the names of the options of a task that serves
abbrev decides : List Word
decides = codes "chain" ∷ codes "rule" ∷ []

abbrev req : Option Word → Option Word → Option Word → Option Word → Option Word → Request
req t c u s b = record { task = t; chain = c; rule = u; seed = s; blocks = b }

abbrev listed : Option Word → List Word
listed None = []
listed (Some w) = w ∷ []

-- at most one
abbrev is_short : List Word → Bool
is_short [] = true
is_short (x ∷ []) = true
is_short (x ∷ y ∷ more) = false

abbrev is_nil : List Word → Bool
is_nil [] = true
is_nil (x ∷ xs) = false

abbrev first : List Word → Option Word
first [] = None
first (x ∷ xs) = Some x

abbrev is_fit : Bool → List Word → List Word → List Word → List Word → List Word → Bool
is_fit ok t c u s b = ok && (is_short t && (is_short c && (is_short u && (is_short s && is_short b))))

-- the request of these words, where each list has one at most
abbrev whole : Bool → List Word → List Word → List Word → List Word → List Word → Option Request
whole ok t c u s b = cond (is_fit ok t c u s b) (Some (req (first t) (first c) (first u) (first s) (first b))) None

first_listed : (o : Option Word) → first (listed o ++ []) ≡ o
first_listed None = refl
first_listed (Some w) = refl

short_listed : (o : Option Word) → is_short (listed o ++ []) ≡ true
short_listed None = refl
short_listed (Some w) = refl

-- a test that fails leaves no request, whatever the tests before it say
fails_1 : (a : Bool) (r : Option Request) → None ≡ cond (a && false) r None
fails_1 true r = refl
fails_1 false r = refl

fails_2 : (a b : Bool) (r : Option Request) → None ≡ cond (a && (b && false)) r None
fails_2 true b r = fails_1 b r
fails_2 false b r = refl

fails_3 : (a b c : Bool) (r : Option Request) → None ≡ cond (a && (b && (c && false))) r None
fails_3 true b c r = fails_2 b c r
fails_3 false b c r = refl

fails_4 : (a b c d : Bool) (r : Option Request) → None ≡ cond (a && (b && (c && (d && false)))) r None
fails_4 true b c d r = fails_3 b c d r
fails_4 false b c d r = refl

fails_5 : (a b c d e : Bool) (r : Option Request) → None ≡ cond (a && (b && (c && (d && (e && false))))) r None
fails_5 true b c d e r = fails_4 b c d e r
fails_5 false b c d e r = refl

-- two words where one may stand leave no request
crowded_task : (ok : Bool) (t c u s b : List Word) (x y : Word) → None ≡ whole ok (x ∷ y ∷ t) c u s b
crowded_task ok t c u s b x y = fails_1 ok (Some (req (Some x) (first c) (first u) (first s) (first b)))

crowded_chain : (ok : Bool) (t c u s b : List Word) (x y : Word) → None ≡ whole ok t (x ∷ y ∷ c) u s b
crowded_chain ok t c u s b x y = fails_2 ok (is_short t) (Some (req (first t) (Some x) (first u) (first s) (first b)))

crowded_rule : (ok : Bool) (t c u s b : List Word) (x y : Word) → None ≡ whole ok t c (x ∷ y ∷ u) s b
crowded_rule ok t c u s b x y = fails_3 ok (is_short t) (is_short c) (Some (req (first t) (first c) (Some x) (first s) (first b)))

crowded_seed : (ok : Bool) (t c u s b : List Word) (x y : Word) → None ≡ whole ok t c u (x ∷ y ∷ s) b
crowded_seed ok t c u s b x y = fails_4 ok (is_short t) (is_short c) (is_short u) (Some (req (first t) (first c) (first u) (Some x) (first b)))

crowded_blocks : (ok : Bool) (t c u s b : List Word) (x y : Word) → None ≡ whole ok t c u s (x ∷ y ∷ b)
crowded_blocks ok t c u s b x y = fails_5 ok (is_short t) (is_short c) (is_short u) (is_short s) (Some (req (first t) (first c) (first u) (first s) (Some x)))

-- what with_items comes to
abbrev found : List Item → Option Word → Option Word → Option Word → Option Word → Option Word → Option Request
found all t c u s b = whole (list_all (is_among known) all) (listed t ++ plain_words all) (listed c ++ values (codes "chain") all)
    (listed u ++ values (codes "rule") all) (listed s ++ values (codes "seed") all) (listed b ++ values (codes "blocks") all)

none_left : (t c u s b : Option Word) → Some (req t c u s b) ≡ found [] t c u s b
none_left t c u s b = rw (short_listed t, short_listed c, short_listed u, short_listed s, short_listed b, first_listed t, first_listed c, first_listed u, first_listed s, first_listed b) refl

-- one item, where those behind it are as they should be
abbrev Goes : List Item → Type 0
Goes all = (t c u s b : Option Word) → with_items (req t c u s b) all ≡ found all t c u s b

plain_goes : (word : Word) (more : List Item) → Goes more → Goes (Plain word ∷ more)
unfolding with_items
plain_goes word more rest None c u s b = rest (Some word) c u s b
plain_goes word more rest (Some w) c u s b =
    crowded_task (list_all (is_among known) more) (plain_words more) (listed c ++ values (codes "chain") more) (listed u ++ values (codes "rule") more) (listed s ++ values (codes "seed") more) (listed b ++ values (codes "blocks") more) w word

chain_goes : (value : Word) (more : List Item) → Goes more → Goes (Given (codes "chain") value ∷ more)
unfolding with_items
chain_goes value more rest t None u s b = rest t (Some value) u s b
chain_goes value more rest t (Some w) u s b =
    crowded_chain (list_all (is_among known) more) (listed t ++ plain_words more) (values (codes "chain") more) (listed u ++ values (codes "rule") more) (listed s ++ values (codes "seed") more) (listed b ++ values (codes "blocks") more) w value

rule_goes : (value : Word) (more : List Item) → Goes more → Goes (Given (codes "rule") value ∷ more)
unfolding with_items
rule_goes value more rest t c None s b = rest t c (Some value) s b
rule_goes value more rest t c (Some w) s b =
    crowded_rule (list_all (is_among known) more) (listed t ++ plain_words more) (listed c ++ values (codes "chain") more) (values (codes "rule") more) (listed s ++ values (codes "seed") more) (listed b ++ values (codes "blocks") more) w value

seed_goes : (value : Word) (more : List Item) → Goes more → Goes (Given (codes "seed") value ∷ more)
unfolding with_items
seed_goes value more rest t c u None b = rest t c u (Some value) b
seed_goes value more rest t c u (Some w) b =
    crowded_seed (list_all (is_among known) more) (listed t ++ plain_words more) (listed c ++ values (codes "chain") more) (listed u ++ values (codes "rule") more) (values (codes "seed") more) (listed b ++ values (codes "blocks") more) w value

blocks_goes : (value : Word) (more : List Item) → Goes more → Goes (Given (codes "blocks") value ∷ more)
unfolding with_items
blocks_goes value more rest t c u s None = rest t c u s (Some value)
blocks_goes value more rest t c u s (Some w) =
    crowded_blocks (list_all (is_among known) more) (listed t ++ plain_words more) (listed c ++ values (codes "chain") more) (listed u ++ values (codes "rule") more) (listed s ++ values (codes "seed") more) (values (codes "blocks") more) w value

other_goes : (name value : Word) (more : List Item) → bytes_eq name (codes "chain") ≡ false → bytes_eq name (codes "rule") ≡ false
    → bytes_eq name (codes "seed") ≡ false → bytes_eq name (codes "blocks") ≡ false → Goes (Given name value ∷ more)
unfolding with_items
other_goes name value more chain rule seed blocks t c u s b = rw (chain, rule, seed, blocks) refl

named : (name other : Word) → bytes_eq name other ≡ true → other ≡ name
named name other e = sym ((bytes_eq-Decides name other).0 e)

given_goes : (name value : Word) (more : List Item) → Goes more → Goes (Given name value ∷ more)
given_goes name value more rest = at_chain (bytes_eq name (codes "chain")) refl
  where
    at_blocks : (is : Bool) → bytes_eq name (codes "blocks") ≡ is → bytes_eq name (codes "chain") ≡ false
        → bytes_eq name (codes "rule") ≡ false → bytes_eq name (codes "seed") ≡ false → Goes (Given name value ∷ more)
    at_blocks true e chain rule seed = subst (λ n. Goes (Given n value ∷ more)) (named name (codes "blocks") e) (blocks_goes value more rest)
    at_blocks false e chain rule seed = other_goes name value more chain rule seed e

    at_seed : (is : Bool) → bytes_eq name (codes "seed") ≡ is → bytes_eq name (codes "chain") ≡ false
        → bytes_eq name (codes "rule") ≡ false → Goes (Given name value ∷ more)
    at_seed true e chain rule = subst (λ n. Goes (Given n value ∷ more)) (named name (codes "seed") e) (seed_goes value more rest)
    at_seed false e chain rule = at_blocks (bytes_eq name (codes "blocks")) refl chain rule e

    at_rule : (is : Bool) → bytes_eq name (codes "rule") ≡ is → bytes_eq name (codes "chain") ≡ false → Goes (Given name value ∷ more)
    at_rule true e chain = subst (λ n. Goes (Given n value ∷ more)) (named name (codes "rule") e) (rule_goes value more rest)
    at_rule false e chain = at_seed (bytes_eq name (codes "seed")) refl chain e

    at_chain : (is : Bool) → bytes_eq name (codes "chain") ≡ is → Goes (Given name value ∷ more)
    at_chain true e = subst (λ n. Goes (Given n value ∷ more)) (named name (codes "chain") e) (chain_goes value more rest)
    at_chain false e = at_rule (bytes_eq name (codes "rule")) refl e

goes : (all : List Item) → Goes all
unfolding with_items
goes [] t c u s b = none_left t c u s b
goes (Plain word ∷ more) t c u s b = plain_goes word more (goes more) t c u s b
goes (Given name value ∷ more) t c u s b = given_goes name value more (goes more) t c u s b
goes (Wrong ∷ more) t c u s b = refl

-- ---- what is gathered, as a command

abbrev streaming_of : Job → List Word → List Word → Option Command
streaming_of t c u = streaming t (one_of chain.Plain chain_named c) (one_of rule.Snowball rule_named u)

-- the command by its parts
abbrev made : List Word → (ok only : Bool) → (c u s b : List Word) → Option Command
made [] ok only c u s b = None
made (word ∷ []) ok only c u s b =
    cond (is_drill word) (cond ok (drill_of c u s b) None) (option_and_then (λ t. cond only (streaming_of t c u) None) (job_named word))
made (word ∷ another ∷ more) ok only c u s b = None

by_parts : (plain : List Word) (all : List Item)
    → made plain (list_all (is_among known) all) (list_all (is_among decides) all) (values (codes "chain") all) (values (codes "rule") all) (values (codes "seed") all) (values (codes "blocks") all)
    ≡ task_with plain all
by_parts [] all = refl
by_parts (word ∷ []) all = refl
by_parts (word ∷ another ∷ more) all = refl

abbrev asked : Option Request → Option Command
asked = option_and_then command_in

no_task : (is : Bool) (c u s b : Option Word) → asked (cond is (Some (req None c u s b)) None) ≡ None
unfolding command_in
no_task true c u s b = refl
no_task false c u s b = refl

-- what is asked of a task that serves
abbrev served_as : Word → Option Request → Option Command
served_as word = option_and_then (service_of word)

another_task : (is : Bool) (word : Word) (c u s b : Option Word) → job_named word ≡ None
    → served_as word (cond is (Some (req (Some word) c u s b)) None) ≡ None
another_task true word c u s b e = ap (option_and_then (service (req (Some word) c u s b))) e
another_task false word c u s b e = refl

abbrev no_command : Option Command
no_command = None

-- nothing comes of any task
of_none : (o : Option Job) → option_and_then (λ (t : Job). no_command) o ≡ None
of_none None = refl
of_none (Some t) = refl

seeded : (is : Bool) (word seed : Word) (c u b : Option Word) → served_as word (cond is (Some (req (Some word) c u (Some seed) b)) None) ≡ None
seeded true word seed c u b = of_none (job_named word)
seeded false word seed c u b = refl

limited : (is : Bool) (word blocks : Word) (c u : Option Word) → served_as word (cond is (Some (req (Some word) c u None (Some blocks))) None) ≡ None
limited true word blocks c u = of_none (job_named word)
limited false word blocks c u = refl

no_rule : (t : Job) (o : Option ChainName) → None ≡ streaming t o None
no_rule t None = refl
no_rule t (Some name) = refl

-- a task whose options may all stand
served : (word : Word) (t : Job) → job_named word ≡ Some t → (c u : List Word) → served_as word (whole true (word ∷ []) c u [] []) ≡ streaming_of t c u
served word t e [] [] = ap (option_and_then (service (req (Some word) None None None None))) e
served word t e [] (y ∷ []) = ap (option_and_then (service (req (Some word) None (Some y) None None))) e
served word t e [] (y ∷ z ∷ ys) = refl
served word t e (x ∷ []) [] = ap (option_and_then (service (req (Some word) (Some x) None None None))) e
served word t e (x ∷ []) (y ∷ []) = ap (option_and_then (service (req (Some word) (Some x) (Some y) None None))) e
served word t e (x ∷ []) (y ∷ z ∷ ys) = no_rule t (chain_named x)
served word t e (x ∷ w ∷ xs) u = refl

service_comes : (word : Word) (t : Job) → job_named word ≡ Some t → (ok : Bool) (c u s b : List Word)
    → served_as word (whole ok (word ∷ []) c u s b) ≡ cond (ok && (is_nil s && is_nil b)) (streaming_of t c u) None
service_comes word t e true c u [] [] = served word t e c u
service_comes word t e false c u s b = refl
service_comes word t e true c u (x ∷ s) b = seeded (is_fit true (word ∷ []) c u (x ∷ s) b) word x (first c) (first u) (first b)
service_comes word t e true c u [] (x ∷ b) = limited (is_fit true (word ∷ []) c u [] (x ∷ b)) word x (first c) (first u)

task_comes : (ok : Bool) (word : Word) (c u s b : List Word) (o : Option Job) → job_named word ≡ o
    → served_as word (whole ok (word ∷ []) c u s b) ≡ option_and_then (λ t. cond (ok && (is_nil s && is_nil b)) (streaming_of t c u) None) o
task_comes ok word c u s b (Some t) e = service_comes word t e ok c u s b
task_comes ok word c u s b None e = another_task (is_fit ok (word ∷ []) c u s b) word (first c) (first u) (first s) (first b) e

-- ---- a drill

no_seed : (r : Option RuleName) (blocks : Option ℕ) → None ≡ drilling r None blocks
no_seed None blocks = refl
no_seed (Some y) blocks = refl

no_blocks : (r : Option RuleName) (seed : Option ℕ) → None ≡ drilling r seed None
no_blocks None seed = refl
no_blocks (Some y) None = refl
no_blocks (Some y) (Some n) = refl

chained : (is : Bool) (value : Word) (u s b : Option Word) → asked (cond is (Some (req (Some (codes "drill")) (Some value) u s b)) None) ≡ None
unfolding command_in
chained true value u s b = refl
chained false value u s b = refl

abbrev rule_of : List Word → Option RuleName
rule_of u = one_of rule.Snowball rule_named u

drill_comes : (ok : Bool) (c u s b : List Word) → asked (whole ok (codes "drill" ∷ []) c u s b) ≡ cond ok (drill_of c u s b) None
unfolding command_in
drill_comes false c u s b = refl
drill_comes true (x ∷ w ∷ c) u s b = refl
drill_comes true (x ∷ []) u s b = chained (is_fit true (codes "drill" ∷ []) (x ∷ []) u s b) x (first u) (first s) (first b)
drill_comes true [] (y ∷ z ∷ u) s b = refl
drill_comes true [] [] (n ∷ m ∷ s) b = refl
drill_comes true [] (y ∷ []) (n ∷ m ∷ s) b = no_seed (rule_named y) (the_one blocks_named b)
drill_comes true [] [] [] (k ∷ l ∷ b) = refl
drill_comes true [] [] (n ∷ []) (k ∷ l ∷ b) = no_blocks (Some rule.Snowball) (seed_named n)
drill_comes true [] (y ∷ []) [] (k ∷ l ∷ b) = no_blocks (rule_named y) None
drill_comes true [] (y ∷ []) (n ∷ []) (k ∷ l ∷ b) = no_blocks (rule_named y) (seed_named n)
drill_comes true [] [] [] [] = refl
drill_comes true [] [] [] (k ∷ []) = refl
drill_comes true [] [] (n ∷ []) [] = refl
drill_comes true [] [] (n ∷ []) (k ∷ []) = refl
drill_comes true [] (y ∷ []) [] [] = refl
drill_comes true [] (y ∷ []) [] (k ∷ []) = refl
drill_comes true [] (y ∷ []) (n ∷ []) [] = refl
drill_comes true [] (y ∷ []) (n ∷ []) (k ∷ []) = refl

-- a word that doesn't name the drill asks for a task that serves
serves : (is : Bool) (word : Word) (c u s b : Option Word) → is_drill word ≡ false
    → asked (cond is (Some (req (Some word) c u s b)) None) ≡ served_as word (cond is (Some (req (Some word) c u s b)) None)
unfolding command_in
serves true word c u s b other = ap (λ (is : Bool). cond is (drill_by c u s b) (service_of word (req (Some word) c u s b))) other
serves false word c u s b other = refl

abbrev WordComes : Bool → Word → List Word → List Word → List Word → List Word → Type 0
WordComes ok word c u s b = asked (whole ok (word ∷ []) c u s b) ≡ made (word ∷ []) ok (ok && (is_nil s && is_nil b)) c u s b

word_comes : (ok : Bool) (word : Word) (c u s b : List Word) → WordComes ok word c u s b
word_comes ok word c u s b = go (is_drill word) refl
  where
    go : (is : Bool) → is_drill word ≡ is → WordComes ok word c u s b
    go true e = subst (λ w. WordComes ok w c u s b) (named word (codes "drill") e) (drill_comes ok c u s b)
    go false e =
        serves (is_fit ok (word ∷ []) c u s b) word (first c) (first u) (first s) (first b) e
        ∙ task_comes ok word c u s b (job_named word) refl
        ∙ ap (λ (is : Bool). cond is (cond ok (drill_of c u s b) None) (option_and_then (λ t. cond (ok && (is_nil s && is_nil b)) (streaming_of t c u) None) (job_named word))) (sym e)

-- what is gathered asks for what its parts make
comes : (ok : Bool) (t c u s b : List Word) → asked (whole ok t c u s b) ≡ made t ok (ok && (is_nil s && is_nil b)) c u s b
comes ok [] c u s b = no_task (is_fit ok [] c u s b) (first c) (first u) (first s) (first b)
comes ok (word ∷ []) c u s b = word_comes ok word c u s b
comes true (x ∷ y ∷ t) c u s b = refl
comes false (x ∷ y ∷ t) c u s b = refl

-- ---- the options of a task that serves among all

abbrev Splits : List Item → Type 0
Splits all = list_all (is_among decides) all
    ≡ (list_all (is_among known) all && (is_nil (values (codes "seed") all) && is_nil (values (codes "blocks") all)))

and_false : (a : Bool) → false ≡ (a && false)
and_false true = refl
and_false false = refl

and_and_false : (a b : Bool) → false ≡ (a && (b && false))
and_and_false true b = and_false b
and_and_false false b = refl

given_splits : (name value : Word) (more : List Item) → Splits more → Splits (Given name value ∷ more)
given_splits name value more rest = at_chain (bytes_eq name (codes "chain")) refl
  where
    at_blocks : (is : Bool) → bytes_eq name (codes "blocks") ≡ is → bytes_eq name (codes "chain") ≡ false
        → bytes_eq name (codes "rule") ≡ false → bytes_eq name (codes "seed") ≡ false → Splits (Given name value ∷ more)
    at_blocks true e chain rule seed = subst (λ n. Splits (Given n value ∷ more)) (named name (codes "blocks") e)
        (and_and_false (list_all (is_among known) more) (is_nil (values (codes "seed") more)))
    at_blocks false e chain rule seed = rw (chain, rule, seed, e) refl

    at_seed : (is : Bool) → bytes_eq name (codes "seed") ≡ is → bytes_eq name (codes "chain") ≡ false
        → bytes_eq name (codes "rule") ≡ false → Splits (Given name value ∷ more)
    at_seed true e chain rule = subst (λ n. Splits (Given n value ∷ more)) (named name (codes "seed") e) (and_false (list_all (is_among known) more))
    at_seed false e chain rule = at_blocks (bytes_eq name (codes "blocks")) refl chain rule e

    at_rule : (is : Bool) → bytes_eq name (codes "rule") ≡ is → bytes_eq name (codes "chain") ≡ false → Splits (Given name value ∷ more)
    at_rule true e chain = subst (λ n. Splits (Given n value ∷ more)) (named name (codes "rule") e) rest
    at_rule false e chain = at_seed (bytes_eq name (codes "seed")) refl chain e

    at_chain : (is : Bool) → bytes_eq name (codes "chain") ≡ is → Splits (Given name value ∷ more)
    at_chain true e = subst (λ n. Splits (Given n value ∷ more)) (named name (codes "chain") e) rest
    at_chain false e = at_rule (bytes_eq name (codes "rule")) refl e

splits : (all : List Item) → Splits all
splits [] = refl
splits (Plain word ∷ more) = splits more
splits (Given name value ∷ more) = given_splits name value more (splits more)
splits (Wrong ∷ more) = refl

-- ---- what words ask for

items_come : (all : List Item) → asked (with_items blank all) ≡ task_with (plain_words all) all
items_come all =
    let chains = values (codes "chain") all in
    let rules = values (codes "rule") all in
    let seeds = values (codes "seed") all in
    let blocks = values (codes "blocks") all in
    ap asked (goes all None None None None None)
    ∙ comes (list_all (is_among known) all) (plain_words all) chains rules seeds blocks
    ∙ ap (λ only. made (plain_words all) (list_all (is_among known) all) only chains rules seeds blocks) (sym (splits all))
    ∙ by_parts (plain_words all) all

-- what a walk over the words gathers asks for what the words ask for
pub gathers : (words : List Word) → asked (with_items blank (items words)) ≡ command_of words
unfolding command_of
gathers words = items_come (items words)

pub no_request : (words : List Word) (r : Option Request) → r ≡ with_items blank (items words) → r ≡ None → None ≡ command_of words
no_request words r gathered none = ap asked (sym none ∙ gathered) ∙ gathers words

pub a_request : (words : List Word) (r : Option Request) (request : Request) (command : Option Command) → r ≡ with_items blank (items words)
    → r ≡ Some request → command ≡ command_in request → command ≡ command_of words
a_request words r request command gathered some is = is ∙ ap asked (sym some ∙ gathered) ∙ gathers words
