-- The pieces of the fixed text of the script that shows the code and the program of a run.
use Rattle.std.specs.Prelude.{ℕ, List, codes}

-- the script that shows the code once, and then where a state is in it
unfoldable pub run_code_text : List ℕ
run_code_text =
    codes "const blockAt=address=>origins.find(b=>address>=b.address&&address<b.address+b.cycles);\nconst codeRows=new Map(),bySource=origins.length>0;\nfor(const [address,text] of code){\nconst [moves,long]=text.replace(/ ;$/,'').split(' ['),block=blockAt(address);\nconst cells=moves.split(' , ').map(move=>make('td','',make('span','',move),make('span','word')));\nconst row=make('tr',reached.has(address)?'':'unreached',make('td','dim',''+address),...cells,make('td','',long?'['+long:''));\nif(bySource)row.prepend(make('td','dim',block?block.name:''));\nif(block)row.classList.add(block.tint);\ncodeRows.set(address,row);\n}\nconst heads=[...bySource?['block']:[],'at',...names.bus,'long'].map(name=>make('th','',name));\nfind('code').append(make('table','',make('tr','',...heads),...codeRows.values()));\n"

-- the script that shows where a state is in the code
unfoldable pub run_where_text : List ℕ
run_where_text =
    codes "let current=null;\nfunction showCode(state){\nif(current){current.id='';current.classList.remove('now');[...current.children].forEach(td=>td.classList.remove('active','passed'));}\ndocument.querySelectorAll('.slot').forEach(row=>row.classList.remove('slot'));\ncurrent=codeRows.get(state.pc)||null;\nif(!current)return;\ncurrent.id='now';\ncurrent.classList.add('now');\nshowActs(state);\nmiddle(current,find('code'));\n}\n"

-- the script that shows the moves of the current instruction, and brings an element to the middle of its part of the page
unfoldable pub run_acts_text : List ℕ
run_acts_text =
    codes "function showActs(state){\nconst cells=[...current.children].slice(bySource?2:1,-1);\ncells.forEach((td,k)=>{\nconst act=state.acts[k];\ntd.classList.add(act.look);\ntd.lastChild.textContent=act.told?shown(act.word):'';\n});\nif(state.jump)for(let k=0;k<state.jump.left;k++){\nconst row=codeRows.get(state.pc+k);\nif(row)row.classList.add('slot');\n}\n}\nfunction middle(element,part){\nconst box=element.getBoundingClientRect(),within=part.getBoundingClientRect();\npart.scrollTop+=box.top+box.height/2-within.top-within.height/2;\n}\n"

-- the script that shows the lines of the program once
unfoldable pub run_program_text : List ℕ
run_program_text =
    codes "const lineRows=new Map(),stepsOf=joined.blocks.flatMap(b=>b.steps.map(step=>({...step,name:b.proc+':'+step.line})));\nconst lineSteps=stepsOf.length?stepsOf:origins.flatMap(b=>b.lines.map(name=>({name,line:name.split(':')[1],text:'',place:''})));\nfor(const step of lineSteps){\nconst of=origins.find(b=>b.lines.includes(step.name));\nlineRows.set(step.name,make('tr',of?of.tint:'',make('td','dim',of?of.name:''),make('td','dim',''+step.line),make('td','',step.text),make('td','dim',step.place)));\n}\nfind('program').append(make('table','',...lineRows.values()));\ndocument.body.classList.toggle('image',!bySource);\n"

-- the script that shows the lines of the current instruction: those of its moves, or all of its block
unfoldable pub run_source_text : List ℕ
run_source_text =
    codes "function showSource(state){\nconst block=blockAt(state.pc),own=block?block.lines:[],joint=block&&joined.named.get(block.name);\nconst slots=joint?joint.slots.filter(slot=>slot.address==state.pc&&slot.item):[];\nconst now=new Set(joint?slots.map(slot=>slot.item.line):own);\nfor(const [name,row] of lineRows)row.classList.toggle('line',now.has(name));\nconst first=lineRows.get([...now][0]||own[0]);\nif(first)middle(first,find('program'));\n}\n"

-- the script that shows the variables that are live in the current block, with the words of their homes
unfoldable pub run_variables_text : List ℕ
run_variables_text =
    codes "const varWord=(state,v)=>state&&(v.home.startsWith('slot.')?state.kept.get(v.home)||'0':wordOf(state,v.home));\nfunction showVariables(state,before){\nconst block=blockAt(state.pc),own=block?block.lives:[];\nfind('variables').replaceChildren(...own.map(v=>cell(v.name+' '+v.home,varWord(state,v),before&&varWord(before,v))),own.length?'':'none is live');\n}\n"
