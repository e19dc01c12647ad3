-- The pieces of the fixed text of the script that reads the states of a run.
use Rattle.std.specs.Prelude.{ℕ, List, codes}

-- the script that reads the data: what was asked for, names, ports, instructions and states
unfoldable pub run_reading_text : List ℕ
run_reading_text =
    codes "const names={bus:[],file:[],imm:[],unit:[]},ports=[],templates={},states=[],code=new Map(),out=[],memory=new Map(),slots=new Map(),asked={},origins=[];\nlet end='more cycles may follow',delay=0,changed=new Set(),instructions=0,rows=0;\nconst takes={\ndelay:w=>delay=+w[0],\nasked:w=>Object.assign(asked,{first:+w[0],bound:+w[1]}),\nport:w=>ports.push({part:w[0],which:w[1],buses:+w[2]}),\ntemplate:w=>templates[w[0]]=w[1],\ninstructions:w=>instructions=+w[0],\nrow:w=>{code.set(+w[0],w.slice(1).join(' '));rows++;},\ncode:(w,state)=>code.has(state.pc)||code.set(state.pc,w.join(' ')),\nstate:w=>{\nstates.push({cycle:w[0],pc:+w[1],jump:null,files:[],imms:[],units:[],input:'',out:out.slice(),memory:new Map(memory),changed:states.length?changed:new Set(),\nkept:new Map(slots)});\nchanged=new Set();\n},\n"

-- the script that reads which lines a block of code stands for, and which variables are live in it, each with its home
unfoldable pub run_origins_text : List ℕ
run_origins_text =
    codes "block:w=>{\nconst block=originOf(['block',...w]);\norigins.push({...block,address:+block.rest[1],cycles:+block.rest[3],lines:[],lives:[],tint:'tint'+origins.length%6});\n},\nlines:w=>origins[origins.length-1].lines=w.map(line=>origins[origins.length-1].proc+':'+line),\nlive:w=>origins[origins.length-1].lives.push({name:w[0],home:w[1]}),\n"

-- the script that reads the lines of a state
unfoldable pub run_lines_text : List ℕ
run_lines_text =
    codes "pending:(w,state)=>state.jump={kind:w[0],to:w[1],left:+w[2]},\nregisters:(w,state)=>state.files.push(w),\nimmediates:(w,state)=>w.forEach((word,k)=>state.kept.set(names.imm[state.imms.length]+'.'+k,word))||state.imms.push(w),\noperands:(w,state)=>w.forEach((word,k)=>state.kept.set(names.unit[k]+'.o',word)),\nreturn:(w,state)=>state.kept.set('gcu.ra',w[0]),\nresults:(w,state)=>state.units.push(w),\ninput:(w,state)=>state.input=w[0],out:w=>out.push(w[0]),\nstore:w=>{memory.set(+w[0],w[1]);changed.add(+w[0]);},\nslot:w=>slots.set('slot.'+w[0],w[1])\n};\nfor(const line of find('data').textContent.split(newline)){\nconst [kind,...words]=line.split(' ');\nif(names[kind])names[kind].push(words[0]);\nelse if(takes[kind])takes[kind](words,states[states.length-1]);\nelse if(line)end=line;\n}\nconst joined=joinAll(stagesOf(find('source').textContent));\n"

-- the script that works out which moves of a state act, and the words that they carry
unfoldable pub run_moves_text : List ℕ
run_moves_text =
    codes "function wordOf(state,source){\nconst [unit,index]=source.split('.'),file=names.file.indexOf(unit),q=names.unit.indexOf(unit);\nif(/^[0-9]+$/.test(source))return source;\nif(file>=0)return state.files[file][+index];\nif(q>=0)return state.units[q][0];\nreturn state.kept.get(source)||'-';\n}\nfunction actOf(state,text){\nconst [,guard,source,target]=/^([?!][^ ]+ )?([^ ]+) -> ([^ ]+)$/.exec(text)||[];\nif(!target)return {text,look:'plain',word:'',source:'',target:''};\nconst truth=guard&&wordOf(state,guard.slice(1,-1)),acts=!guard||truth!='-'&&(guard[0]=='?')==(truth!='0');\nreturn {text,look:acts?'active':'passed',word:acts?wordOf(state,source):'',told:acts&&!/^[0-9]/.test(source),source,target};\n}\nfunction actsOf(state){\nconst [moves,long]=(code.get(state.pc)||'').replace(/ ;$/,'').split(' [');\nstate.acts=moves.split(' , ').map(text=>actOf(state,text));\nstate.long=long?'['+long:'';\n}\nstates.forEach(actsOf);\nconst reached=new Set(states.map(state=>state.pc));\n"

-- the script that writes words: decimal, signed or hexadecimal
unfoldable pub run_words_text : List ℕ
run_words_text =
    codes "const forms=['decimal','signed','hexadecimal'];\nlet form=0;\nfunction shown(word){\nif(word===undefined||word===''||word=='-'||form==0)return word||'-';\nif(form==1)return ''+(+word>=2**31?word-2**32:word);\nreturn '0x'+(+word).toString(16);\n}\nconst cell=(name,word,old)=>make('span',old===undefined||old==word?'cell':'cell changed',name+': '+shown(word));\n"
