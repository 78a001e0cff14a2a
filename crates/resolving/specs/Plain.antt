-- What a statement that contains no other yields: what it reads, and its effect.
use Rattle.std.specs.Prelude.{ℕ, List, [], ◌∷◌, ◌++◌, Option, Some, None, option_and_then, option_map}
use Rattle.std.specs.List.{flat_map}
use Rattle.std.specs.Option.{option_map_or}
use Rattle.source.specs.declared.place.Place.{Place}
use Rattle.source.specs.declared.token.Span.{Span}
use Rattle.tree.specs.Expressions as trees
use Rattle.tree.specs.Expressions.{TargetTree, ExpressionTree}
use Rattle.tree.specs.StatementTrees as stated
use Rattle.tree.specs.StatementTrees.{PlainTree, DeclareTree}
use Rattle.tree.specs.Values as values
use Rattle.tree.specs.Values.{ValueTree, CallTree, MadeTree}
use Rattle.tree.specs.declared.class as declared_class
use Rattle.tree.specs.declared.statement as statement
use Rattle.declarations.specs.Types.{type_meant}
use Rattle.declarations.specs.Program.{ProgramText}
use Rattle.program.specs.declared.number.ContractId.{ContractId}
use Rattle.program.specs.Statements as seen
use Rattle.program.specs.Statements.{CallModel, NewModel, SendModel, StatementModel}
use Rattle.program.specs.declared.call.Argument.{Argument}
use Rattle.program.specs.declared.method.Role.TheVariants.{Local}
use Rattle.program.specs.declared.statement.Action.{Action}
use Rattle.program.specs.declared.statement.Action.TheVariants.{Use, Move, Delete, Exchange, NewChannel}
use Rattle.program.specs.declared.statement.Effect.{Effect}
use Rattle.program.specs.declared.statement.Effect.TheVariants.{Nothing, Act, Break, Continue, Return}
use Rattle.program.specs.declared.statement.Mention.{Mention}
use Rattle.resolving.specs.Fields.{field_number}
use Rattle.resolving.specs.Locals.{LocalFrame, forget, local_named, mention, mention_of, with_declaration, next_number, number_of}
use Rattle.resolving.specs.Callees.{NumberedMethod, callee, called_name}
use Rattle.resolving.specs.Types.{contract_named, type_held}
use Rattle.resolving.specs.Messages.{Meant, message_sent, end_contract}
use Rattle.resolving.specs.Reads.{reads, mention_list}
use Rattle.resolving.specs.Staying.{Staying}
use Rattle.tree.specs.Alone.{lone_name}
use Rattle.resolving.specs.declared.locals.Declaration.{Declaration}

-- the effect that is this action, or `Nothing` if there is none
abbrev pub effect_of : Option Action → Effect
effect_of action = option_map_or Act action Nothing

-- the effect of an action on a variable, if it is of the exchange heap
abbrev pub effect_on : (Mention → Action) → Option Mention → Effect
effect_on act mention = effect_of (option_map act mention)

-- the argument for a parameter, if the expression is just a variable of the exchange heap; else none
abbrev pub argument_of : declared_class.Parameter.Parameter → Option Mention → List Argument
argument_of x None = []
argument_of x (Some m) = record { mention = m; claimed = x.claims } ∷ []

-- what a declaration declares; the variable is in scope after it
abbrev pub declaration_of : ProgramText → DeclareTree → Declaration
declaration_of p d = record { name = d.name; ty = type_meant p d.ty; held = type_held p d.ty; role = Local }

-- the message that a call by two names sends, if the first means an endpoint
abbrev pub meant_by : ProgramText → LocalFrame → CallTree → Span → Option Meant
meant_by p f c word = option_and_then (λ n. message_sent p n word) (end_contract p f.locals c.name)

module _ (p : ProgramText) (class : ℕ) (f : LocalFrame) where
  -- the variable of the exchange heap that is the whole expression, if it is just one
  abbrev pub lone : ExpressionTree → Option Mention
  lone e = option_and_then (mention p.text f.locals) (lone_name e)

  -- the arguments for the parameters of the exchange heap, in order
  abbrev pub arguments : List declared_class.Parameter.Parameter → List ExpressionTree → List Argument
  arguments [] es = []
  arguments (x ∷ params) [] = []
  arguments (x ∷ params) (e ∷ es) = argument_of x (lone e) ++ arguments params es

  -- what arguments read; those of the exchange heap are just names, which read nothing
  abbrev pub argument_reads : List ExpressionTree → List Mention
  argument_reads es = flat_map (reads p.text f.locals) es

  -- a call of this method
  abbrev pub call_of : CallTree → Option Mention → List Mention → NumberedMethod → CallModel
  call_of c target behind m = record {
    reads = argument_reads c.arguments;
    place = (called_name c.name c.member).place;
    method = record { 0 = m.number };
    arguments = arguments m.method.params c.arguments;
    target = target;
    behind = behind;
  }

  -- a call, with what takes its result and what is used after it
  abbrev pub call_told : CallTree → Option Mention → List Mention → Option CallModel
  call_told c target behind = option_map (call_of c target behind) (callee p class f.locals c)

  -- a call as a statement
  abbrev pub call_statement : CallTree → Option Mention → List Mention → StatementModel
  call_statement c target behind = option_map_or seen.Call (call_told c target behind) (seen.Simple [] Nothing)

  -- a `start` as a statement
  abbrev pub start_statement : CallTree → StatementModel
  start_statement c = option_map_or seen.Start (call_told c None []) (seen.Simple [] Nothing)

  -- the arguments of the exchange heap, in order
  abbrev pub payloads : List ExpressionTree → List Mention
  payloads es = flat_map (λ e. mention_list (lone e)) es

  -- a send of this message on this endpoint
  abbrev pub send_of : Span → CallTree → Mention → Meant → SendModel
  send_of word c endpoint m = record {
    reads = argument_reads c.arguments;
    place = word.place;
    endpoint = endpoint;
    message = m.id;
    payloads = payloads c.arguments;
  }

  -- a call by two names, as a send of this message
  abbrev pub send_for : CallTree → Span → Meant → Option SendModel
  send_for c word m = option_map (λ e. send_of word c e m) (mention p.text f.locals c.name)

  -- a call by two names, if it is a send
  abbrev pub sent_by : CallTree → Span → Option SendModel
  sent_by c word = option_and_then (send_for c word) (meant_by p f c word)

  -- a call that is a statement of its own, if it is a send
  abbrev pub send_told : CallTree → Option SendModel
  send_told c = option_and_then (sent_by c) c.member

  -- a call that is a statement of its own: a send if it is one, else a call of a method
  abbrev pub stated_call : CallTree → StatementModel
  stated_call c = option_map_or seen.Send (send_told c) (call_statement c None [])

  -- two variables take the ends of a new channel of this contract
  abbrev pub ends_of : Place → ContractId → Mention → Mention → Action
  ends_of place contract v w = NewChannel (record { place = place; contract = contract; first = v; second = w })

  -- a new channel of this contract, if both names mean variables
  abbrev pub channel_action : statement.NewChannel.NewChannel → ContractId → Option Action
  channel_action n contract = option_and_then (λ v. option_map (ends_of n.word.place contract v) (mention p.text f.locals n.second))
      (mention p.text f.locals n.first)

  -- a new channel, if its contract and both names mean something
  abbrev pub channel_found : statement.NewChannel.NewChannel → Option Action
  channel_found n = option_and_then (channel_action n) (contract_named p n.contract)

  -- what `new` reads: the length of an array; the arguments of a struct are just names, which read nothing
  abbrev pub made_reads : MadeTree → List Mention
  made_reads (values.Struct name left given) = []
  made_reads (values.Array element length) = reads p.text f.locals length

  -- the variables given for the owning fields of what is made
  abbrev pub made_arguments : MadeTree → List Mention
  made_arguments (values.Struct name left given) = payloads given
  made_arguments (values.Array element length) = []

  -- a variable takes a new block
  abbrev pub new_of : Mention → MadeTree → NewModel
  new_of target m = record { reads = made_reads m; target = target; arguments = made_arguments m }

  -- what a variable has and what the owning field of this number has are exchanged
  abbrev pub exchange_of : statement.Exchange.Exchange → ℕ → Mention → Mention → Action
  exchange_of e field holder given = Exchange (record { place = e.word.place; holder = holder; field = field; given = given })

  -- an exchange with this field, if both names mean variables
  abbrev pub exchange_by : statement.Exchange.Exchange → ℕ → Option Action
  exchange_by e field = option_and_then (λ holder. option_map (exchange_of e field holder) (mention p.text f.locals e.given))
      (mention p.text f.locals e.holder)

  -- an exchange, if its field and both names mean something
  abbrev pub exchange_found : statement.Exchange.Exchange → Option Action
  exchange_found e = option_and_then (exchange_by e)
      (option_and_then (λ v. field_number p v.ty e.field) (local_named p.text f.locals e.holder))

  -- a variable of the exchange heap takes a value
  abbrev pub take_statement : Mention → ValueTree → StatementModel
  take_statement target (values.Expression e) = seen.Simple [] (effect_on (Move target) (lone e))
  take_statement target (values.Call c) = call_statement c (Some target) []
  take_statement target (values.New n) = seen.New (new_of target n.made)

  -- a scalar takes a value
  abbrev pub scalar_taken : ValueTree → StatementModel
  scalar_taken (values.Expression e) = seen.Simple (reads p.text f.locals e) Nothing
  scalar_taken (values.Call c) = call_statement c None []
  scalar_taken (values.New n) = seen.Simple (made_reads n.made) Nothing

  -- a variable takes a value: one of the exchange heap, or a scalar
  abbrev pub assign_statement : Option Mention → ValueTree → StatementModel
  assign_statement None value = scalar_taken value
  assign_statement (Some target) value = take_statement target value

  -- A field or an element takes a value. The index is read, then the value, and then the block is
  -- used; a value that is a call comes before the index.
  abbrev pub part_taken : List Mention → Option Mention → ValueTree → StatementModel
  part_taken index whole (values.Expression e) = seen.Simple (index ++ reads p.text f.locals e) (effect_on Use whole)
  part_taken index whole (values.Call c) = call_statement c None (index ++ mention_list whole)
  part_taken index whole (values.New n) = seen.Simple (index ++ made_reads n.made) (effect_on Use whole)

  -- a target takes a value
  abbrev pub write_statement : TargetTree → ValueTree → StatementModel
  write_statement (trees.Variable name) value = assign_statement (mention p.text f.locals name) value
  write_statement (trees.Field name field) value = part_taken [] (mention p.text f.locals name) value
  write_statement (trees.Element name index) value = part_taken (reads p.text f.locals index) (mention p.text f.locals name) value

  -- the value of a declaration, if there is one, is assigned to its variable, which has this number if it is of the exchange heap
  abbrev pub first_value : Span → Option ℕ → Option ValueTree → StatementModel
  first_value name number None = seen.Simple [] Nothing
  first_value name number (Some value) = assign_statement (option_map (mention_of name) number) value

  -- a `return`: what its expression reads, and the variable of the exchange heap that is the whole expression, if it is just one
  abbrev pub return_statement : Place → Option ExpressionTree → StatementModel
  return_statement place None = seen.Simple [] (Return place None (option_map number_of f.last))
  return_statement place (Some e) = seen.Simple (reads p.text f.locals e) (Return place (lone e) (option_map number_of f.last))

  -- a statement that contains no other
  abbrev pub plain_told : Staying → PlainTree → StatementModel
  plain_told stays (stated.Declare d) = first_value d.name (next_number (type_held p d.ty) f) d.value
  plain_told stays (stated.Assign a) = write_statement a.target a.value
  plain_told stays (stated.Call c) = stated_call c
  plain_told stays (stated.Start word c) = start_statement c
  plain_told stays (stated.Delete name) = seen.Simple [] (effect_on Delete (mention p.text f.locals name))
  plain_told stays (stated.Exchange e) = seen.Simple [] (effect_of (exchange_found e))
  plain_told stays (stated.NewChannel n) = seen.Simple [] (effect_of (channel_found n))
  plain_told stays (stated.Break word) = seen.Simple [] (Break (forget word.place stays.at_break f.last))
  plain_told stays (stated.Continue word) = seen.Simple [] (Continue (forget word.place stays.at_continue f.last))
  plain_told stays (stated.Return word value) = return_statement word.place value

  -- the frame after it
  abbrev pub frame_behind : PlainTree → LocalFrame
  frame_behind (stated.Declare d) = with_declaration p.text (declaration_of p d) f
  frame_behind _ = f
